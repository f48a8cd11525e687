use Rattle.std.proofs.Common.{◌≡◌, ◌<◌, ◌≤◌, Bool, true, false, List, get_or, vec_items, vec_len, sym, refl, ap, ◌∙◌, subst, arith}
use Rattle.std.proofs.lemmas.List.{get_or_read, get_or-take, length-take-le}
use Rattle.course.specs.Forward.{only}
use Rattle.course.specs.Reach.{lost}
use Rattle.course.specs.Recursions.{members, hubs_at, Stands, Crosses}
use Rattle.course.specs.View.{course_of, size}
use Rattle.course.proofs.Maps.{bound_up}
use Rattle.course.proofs.Loops.{going_on, going_stops, going_ends}
use Rattle.course.proofs.HubsIn.{hubs_add}
use Rattle.course.proofs.Walks.{reached_root}
use Rattle.course.proofs.Fits.{fits_edge, fits_union, fits_disjoint, fits_append, fits_mark, fits_graph, fits_if, fits_recursion}
use Rattle.course.proofs.Forms.{still_bound, evaluated, whole, at_node, at_edge_exit, at_edge, at_union_left, at_union_right, at_union, at_mark_exit, at_mark, at_out, at_zero, at_disjoint_left, at_disjoint_right, at_disjoint, at_append_left, at_append_right, at_append_tie, at_append, at_graph, at_if_exit, at_if_same, at_if_other}
use Rattle.course.proofs.Recurs.{body_frame, body_eval, body_link, body_tie, body_done, turn_past, turn_blank, turn_body, begins_kept, same_front, turn_kept, hubs_kept, crossing, hubs_there, taken_at, at_recursion_exit, at_recursion_hubs, at_recursion_turns, at_recursion}
use Rattle.course.proofs.+evaluation.Goals as goal

-- Node
pub evaluate::Evaluator::evaluate-returns-in-Node : goal.evaluate::Evaluator::evaluate-returns-in-Node
evaluate::Evaluator::evaluate-returns-in-Node t c = at_node c.in-Node.ensures.tree c.plain_node.ensures

-- Edge
pub evaluate::Evaluator::evaluate-evaluate-requires : goal.evaluate::Evaluator::evaluate-evaluate-requires
evaluate::Evaluator::evaluate-evaluate-requires t c =
    let low = c.in-Edge.ensures.low in
    let k = fits_edge c.args.self.now.expression.now.constants c.args.self.now.env.level c.in-Edge.ensures.tree c.requires.fitting in
    (omega (arith, low), (k.1, c.requires.bound))

pub evaluate::Evaluator::evaluate-returns-in_err-part-in-Edge : goal.evaluate::Evaluator::evaluate-returns-in_err-part-in-Edge
evaluate::Evaluator::evaluate-returns-in_err-part-in-Edge t c = at_edge_exit c.from_residual.result c.in-Edge.ensures.tree c.in_err-part-in-Edge.ensures c.from_residual.ensures.1

pub evaluate::Evaluator::evaluate-origin-requires-clause-known : goal.evaluate::Evaluator::evaluate-origin-requires-clause-known
evaluate::Evaluator::evaluate-origin-requires-clause-known t c =
    let k = fits_edge c.args.self.now.expression.now.constants c.args.self.now.env.level c.in-Edge.ensures.tree c.requires.fitting in
    k.0

pub evaluate::Evaluator::evaluate-returns-in_ok-part-in-Edge : goal.evaluate::Evaluator::evaluate-returns-in_ok-part-in-Edge
evaluate::Evaluator::evaluate-returns-in_ok-part-in-Edge t c =
    at_edge c.origin.result c.in-Edge.ensures.tree c.in_ok-part-in-Edge.ensures c.origin.ensures c.edge_node.ensures

-- Union
pub evaluate::Evaluator::evaluate-evaluate-requires-in-Union : goal.evaluate::Evaluator::evaluate-evaluate-requires-in-Union
evaluate::Evaluator::evaluate-evaluate-requires-in-Union t c =
    let low = c.in-Union.ensures.low.0 in
    let k = fits_union c.args.self.now.expression.now.constants c.args.self.now.env.level c.in-Union.ensures.tree c.requires.fitting in
    (omega (arith, low), (k.0, c.requires.bound))

pub evaluate::Evaluator::evaluate-returns-in_err-left-in-Union : goal.evaluate::Evaluator::evaluate-returns-in_err-left-in-Union
evaluate::Evaluator::evaluate-returns-in_err-left-in-Union t c = at_union_left c.from_residual-in_err-left-in-Union.result c.in-Union.ensures.tree c.in_err-left-in-Union.ensures c.from_residual-in_err-left-in-Union.ensures.1

pub evaluate::Evaluator::evaluate-evaluate-requires-in-Union-2 : goal.evaluate::Evaluator::evaluate-evaluate-requires-in-Union-2
evaluate::Evaluator::evaluate-evaluate-requires-in-Union-2 t c =
    let low = c.in-Union.ensures.low.1 in
    let k = fits_union c.args.self.now.expression.now.constants c.args.self.now.env.level c.in-Union.ensures.tree c.requires.fitting in
    (omega (arith, low), (k.1, still_bound c.args.self.now.env c.in_ok-left-in-Union.ensures c.requires.bound))

pub evaluate::Evaluator::evaluate-returns-in_err-right-in-Union : goal.evaluate::Evaluator::evaluate-returns-in_err-right-in-Union
evaluate::Evaluator::evaluate-returns-in_err-right-in-Union t c =
    at_union_right c.from_residual-in_err-right-in-Union.result c.in-Union.ensures.tree c.in_ok-left-in-Union.ensures c.in_err-right-in-Union.ensures c.from_residual-in_err-right-in-Union.ensures.1

pub evaluate::Evaluator::evaluate-returns-in_ok-right-in-Union : goal.evaluate::Evaluator::evaluate-returns-in_ok-right-in-Union
evaluate::Evaluator::evaluate-returns-in_ok-right-in-Union t c =
    at_union c.in_set.result c.in-Union.ensures.tree c.in_ok-left-in-Union.ensures c.in_ok-right-in-Union.ensures c.in_set.ensures c.join.ensures

-- Mark
pub evaluate::Evaluator::evaluate-evaluate-requires-in-Mark : goal.evaluate::Evaluator::evaluate-evaluate-requires-in-Mark
evaluate::Evaluator::evaluate-evaluate-requires-in-Mark t c =
    let low = c.in-Mark.ensures.low in
    let k = fits_mark c.args.self.now.expression.now.constants c.args.self.now.env.level c.in-Mark.ensures.tree c.requires.fitting in
    (omega (arith, low), (k.1, c.requires.bound))

pub evaluate::Evaluator::evaluate-returns-in_err-part-in-Mark : goal.evaluate::Evaluator::evaluate-returns-in_err-part-in-Mark
evaluate::Evaluator::evaluate-returns-in_err-part-in-Mark t c = at_mark_exit c.from_residual-in_err-part-in-Mark.result c.in-Mark.ensures.tree c.in_err-part-in-Mark.ensures c.from_residual-in_err-part-in-Mark.ensures.1

pub evaluate::Evaluator::evaluate-returns-in_ok-part-in-Mark : goal.evaluate::Evaluator::evaluate-returns-in_ok-part-in-Mark
evaluate::Evaluator::evaluate-returns-in_ok-part-in-Mark t c = at_mark c.only.result c.in-Mark.ensures.tree c.in_ok-part-in-Mark.ensures c.only.ensures

-- Out
pub evaluate::Evaluator::evaluate-returns-in-Out : goal.evaluate::Evaluator::evaluate-returns-in-Out
evaluate::Evaluator::evaluate-returns-in-Out t c = at_out c.in-Out.ensures.tree c.open_node.ensures

-- Zero
pub evaluate::Evaluator::evaluate-returns-in-Zero : goal.evaluate::Evaluator::evaluate-returns-in-Zero
evaluate::Evaluator::evaluate-returns-in-Zero t c = at_zero c.in-Zero.ensures.tree c.requires.bound

-- Disjoint
pub evaluate::Evaluator::evaluate-evaluate-requires-in-Disjoint : goal.evaluate::Evaluator::evaluate-evaluate-requires-in-Disjoint
evaluate::Evaluator::evaluate-evaluate-requires-in-Disjoint t c =
    let low = c.in-Disjoint.ensures.low.0 in
    let k = fits_disjoint c.args.self.now.expression.now.constants c.args.self.now.env.level c.in-Disjoint.ensures.tree c.requires.fitting in
    (omega (arith, low), (k.0, c.requires.bound))

pub evaluate::Evaluator::evaluate-returns-in_err-left-in-Disjoint : goal.evaluate::Evaluator::evaluate-returns-in_err-left-in-Disjoint
evaluate::Evaluator::evaluate-returns-in_err-left-in-Disjoint t c = at_disjoint_left c.from_residual-in_err-left-in-Disjoint.result c.in-Disjoint.ensures.tree c.in_err-left-in-Disjoint.ensures c.from_residual-in_err-left-in-Disjoint.ensures.1

pub evaluate::Evaluator::evaluate-evaluate-requires-in-Disjoint-2 : goal.evaluate::Evaluator::evaluate-evaluate-requires-in-Disjoint-2
evaluate::Evaluator::evaluate-evaluate-requires-in-Disjoint-2 t c =
    let low = c.in-Disjoint.ensures.low.1 in
    let k = fits_disjoint c.args.self.now.expression.now.constants c.args.self.now.env.level c.in-Disjoint.ensures.tree c.requires.fitting in
    (omega (arith, low), (k.1, still_bound c.args.self.now.env c.in_ok-left-in-Disjoint.ensures c.requires.bound))

pub evaluate::Evaluator::evaluate-returns-in_err-right-in-Disjoint : goal.evaluate::Evaluator::evaluate-returns-in_err-right-in-Disjoint
evaluate::Evaluator::evaluate-returns-in_err-right-in-Disjoint t c =
    at_disjoint_right c.from_residual-in_err-right-in-Disjoint.result c.in-Disjoint.ensures.tree c.in_ok-left-in-Disjoint.ensures c.in_err-right-in-Disjoint.ensures c.from_residual-in_err-right-in-Disjoint.ensures.1

pub evaluate::Evaluator::evaluate-returns-in_ok-right-in-Disjoint : goal.evaluate::Evaluator::evaluate-returns-in_ok-right-in-Disjoint
evaluate::Evaluator::evaluate-returns-in_ok-right-in-Disjoint t c =
    at_disjoint c.in_set-in-Disjoint.result c.merge.result c.in-Disjoint.ensures.tree c.in_ok-left-in-Disjoint.ensures c.in_ok-right-in-Disjoint.ensures c.in_set-in-Disjoint.ensures c.merge.ensures

-- Graph
pub evaluate::Evaluator::evaluate-node-requires-clause-known : goal.evaluate::Evaluator::evaluate-node-requires-clause-known
evaluate::Evaluator::evaluate-node-requires-clause-known t c = fits_graph c.args.self.now.expression.now.constants c.args.self.now.env.level c.in-Graph.ensures.tree c.requires.fitting

pub evaluate::Evaluator::evaluate-returns-in-Graph : goal.evaluate::Evaluator::evaluate-returns-in-Graph
evaluate::Evaluator::evaluate-returns-in-Graph t c = at_graph c.only-in-Graph.result c.in-Graph.ensures.tree (c.only-in-Graph.ensures ∙ ap (only 0) c.node.ensures) c.requires.bound

-- If
pub evaluate::Evaluator::evaluate-origin-left-requires-clause-known : goal.evaluate::Evaluator::evaluate-origin-left-requires-clause-known
evaluate::Evaluator::evaluate-origin-left-requires-clause-known t c = (fits_if c.args.self.now.expression.now.constants c.args.self.now.env.level c.in-If.ensures.tree c.requires.fitting).0

pub evaluate::Evaluator::evaluate-origin-right-requires-clause-known : goal.evaluate::Evaluator::evaluate-origin-right-requires-clause-known
evaluate::Evaluator::evaluate-origin-right-requires-clause-known t c = (fits_if c.args.self.now.expression.now.constants c.args.self.now.env.level c.in-If.ensures.tree c.requires.fitting).1

pub evaluate::Evaluator::evaluate-returns-in_err-compare-in-If : goal.evaluate::Evaluator::evaluate-returns-in_err-compare-in-If
evaluate::Evaluator::evaluate-returns-in_err-compare-in-If t c =
    at_if_exit c.origin-left.result c.origin-right.result c.from_residual-in_err-compare-in-If.result c.in-If.ensures.tree c.origin-left.ensures c.origin-right.ensures c.in_err-compare-in-If.ensures.told c.from_residual-in_err-compare-in-If.ensures.1

pub evaluate::Evaluator::evaluate-evaluate-requires-in-Same : goal.evaluate::Evaluator::evaluate-evaluate-requires-in-Same
evaluate::Evaluator::evaluate-evaluate-requires-in-Same t c =
    let low = c.in-If.ensures.low.0 in
    let k = fits_if c.args.self.now.expression.now.constants c.args.self.now.env.level c.in-If.ensures.tree c.requires.fitting in
    (omega (arith, low), (k.2, bound_up (size c.args.work.now) (size c.compare.new.self) c.args.self.now.env c.in_ok-compare-in-If.ensures.told.3 c.requires.bound))

pub evaluate::Evaluator::evaluate-evaluate-requires-in-Other : goal.evaluate::Evaluator::evaluate-evaluate-requires-in-Other
evaluate::Evaluator::evaluate-evaluate-requires-in-Other t c =
    let low = c.in-If.ensures.low.1 in
    let k = fits_if c.args.self.now.expression.now.constants c.args.self.now.env.level c.in-If.ensures.tree c.requires.fitting in
    (omega (arith, low), (k.3, bound_up (size c.args.work.now) (size c.compare.new.self) c.args.self.now.env c.in_ok-compare-in-If.ensures.told.3 c.requires.bound))

pub evaluate::Evaluator::evaluate-returns-in-Same : goal.evaluate::Evaluator::evaluate-returns-in-Same
evaluate::Evaluator::evaluate-returns-in-Same t c =
    at_if_same c.origin-left.result c.origin-right.result c.in-If.ensures.tree c.origin-left.ensures c.origin-right.ensures c.in_ok-compare-in-If.ensures c.in-Same.is c.evaluate-in-Same.ensures

pub evaluate::Evaluator::evaluate-returns-in-Other : goal.evaluate::Evaluator::evaluate-returns-in-Other
evaluate::Evaluator::evaluate-returns-in-Other t c =
    at_if_other c.origin-left.result c.origin-right.result c.in-If.ensures.tree c.origin-left.ensures c.origin-right.ensures c.in_ok-compare-in-If.ensures c.in-Other.is c.evaluate-in-Other.ensures

-- the forms that have a function of their own
pub evaluate::Evaluator::evaluate-append-requires : goal.evaluate::Evaluator::evaluate-append-requires
evaluate::Evaluator::evaluate-append-requires t c =
    let low = c.in-Append.ensures.low in
    let k = fits_append c.args.self.now.expression.now.constants c.args.self.now.env.level c.in-Append.ensures.tree c.requires.fitting in
    (omega arith, ((low.0, low.1), (k.0, (k.1, c.requires.bound))))

pub evaluate::Evaluator::evaluate-returns-in-Append : goal.evaluate::Evaluator::evaluate-returns-in-Append
evaluate::Evaluator::evaluate-returns-in-Append t c = whole c.in-Append.ensures.tree c.append.ensures

pub evaluate::Evaluator::evaluate-recur-requires : goal.evaluate::Evaluator::evaluate-recur-requires
evaluate::Evaluator::evaluate-recur-requires t c =
    let low = c.in-Recursion.ensures.low in
    let k = fits_recursion c.args.self.now.expression.now.constants c.args.self.now.env.level c.in-Recursion.ensures.tree c.requires.fitting in
    (omega arith, ((low.0, low.1), (k.0, (k.1, (k.2, c.requires.bound)))))

pub evaluate::Evaluator::evaluate-returns-in-Recursion : goal.evaluate::Evaluator::evaluate-returns-in-Recursion
evaluate::Evaluator::evaluate-returns-in-Recursion t c = whole c.in-Recursion.ensures.tree c.recur.ensures

-- Append
pub evaluate::Evaluator::append-returns-in_err-above : goal.evaluate::Evaluator::append-returns-in_err-above
evaluate::Evaluator::append-returns-in_err-above t c = at_append_left c.from_residual.result refl c.in_err-above.ensures c.from_residual.ensures.1

pub evaluate::Evaluator::append-returns-in_err-below : goal.evaluate::Evaluator::append-returns-in_err-below
evaluate::Evaluator::append-returns-in_err-below t c =
    at_append_right c.from_residual-in_err-below.result refl c.in_ok-above.ensures c.in_err-below.ensures c.from_residual-in_err-below.ensures.1

pub evaluate::Evaluator::append-returns-in_err-tie_outs : goal.evaluate::Evaluator::append-returns-in_err-tie_outs
evaluate::Evaluator::append-returns-in_err-tie_outs t c =
    at_append_tie c.len-base.result c.len-mid.result c.in_set.result c.from_residual-in_err-tie_outs.result refl c.in_ok-above.ensures c.in_ok-below.ensures c.in_set.ensures
    (c.len-base.ensures ∙ c.args.work.now.outs.ok.0) (c.len-mid.ensures ∙ c.evaluate.new.work.outs.ok.0)
    c.in_err-tie_outs.ensures.told c.from_residual-in_err-tie_outs.ensures.1

pub evaluate::Evaluator::append-returns : goal.evaluate::Evaluator::append-returns
evaluate::Evaluator::append-returns t c =
    at_append c.len-base.result c.len-mid.result c.in_set.result refl c.in_ok-above.ensures c.in_ok-below.ensures c.in_set.ensures
    (c.len-base.ensures ∙ c.args.work.now.outs.ok.0) (c.len-mid.ensures ∙ c.evaluate.new.work.outs.ok.0)
    c.in_ok-tie_outs.ensures c.cut_outs.ensures.rest c.cut_outs.ensures.outs c.cut_outs.ensures.sizes

-- Recursion
pub evaluate::Evaluator::recur-returns-in_err-part : goal.evaluate::Evaluator::recur-returns-in_err-part
evaluate::Evaluator::recur-returns-in_err-part t c = at_recursion_exit c.from_residual.result c.in_err-part.ensures c.from_residual.ensures.1

pub evaluate::Evaluator::recur-returns-in_err-make_hubs : goal.evaluate::Evaluator::recur-returns-in_err-make_hubs
evaluate::Evaluator::recur-returns-in_err-make_hubs t c =
    at_recursion_hubs c.find_hubs-hubs.result c.from_residual-in_err-make_hubs.result c.in_ok-part.ensures c.drop_outs.ensures.rest c.in_set.ensures c.find_hubs-hubs.ensures
    c.in_err-make_hubs.ensures c.from_residual-in_err-make_hubs.ensures.1

pub evaluate::Evaluator::recur-take_arrows-requires : goal.evaluate::Evaluator::recur-take_arrows-requires
evaluate::Evaluator::recur-take_arrows-requires t c =
    let w = c.args.work.now in
    let v = c.drop_outs.new.self in
    let y = c.make_hubs.new.self in
    let h = c.find_hubs-hubs.result in
    let n = c.find_hubs-hubs.ensures in
    let made = c.in_ok-make_hubs.ensures in
    let more = hubs_add h.rule.place h.rule.frame h.set (members h) (course_of v) (course_of y) made.told.0 in
    let kept = begins_kept (vec_items v.arrows) (vec_items y.arrows) c.extent-after.result.arrows (hubs_kept h made) (omega (arith, c.extent-after.ensures.arrows, v.arrows.ok.0)) in (
      omega (arith, c.requires.low.0),
      (
        (
          bound_up (size w) (size y) c.args.self.now.env (omega (arith, c.in_ok-part.ensures.run.told.3, c.drop_outs.ensures.sizes, made.told.2)) c.requires.bound,
          omega (arith, n.first, more, v.nodes.ok.0, y.nodes.ok.0),
        ),
        (
          omega (arith, kept.1, y.arrows.ok.0),
          λ k l. crossing v (get_or c.in_ok-part.part 0 0) h k (get_or (vec_items y.arrows) k lost) n (omega (arith, c.extent-after.ensures.arrows, l)) (same_front (vec_items y.arrows) (vec_items v.arrows) c.extent-after.result.arrows k lost l kept.0),
        ),
      ),
    )

pub evaluate::Evaluator::recur-returns-in_err-take_arrows : goal.evaluate::Evaluator::recur-returns-in_err-take_arrows
evaluate::Evaluator::recur-returns-in_err-take_arrows t c =
    let v = c.drop_outs.new.self in
    at_recursion_turns c.find_hubs-hubs.result c.extent-after.result.arrows c.from_residual-in_err-take_arrows.result c.in_ok-part.ensures c.drop_outs.ensures.rest c.in_set.ensures c.find_hubs-hubs.ensures
    c.in_ok-make_hubs.ensures (c.extent-after.ensures.arrows ∙ v.arrows.ok.0) c.in_err-take_arrows.ensures c.from_residual-in_err-take_arrows.ensures.1

pub evaluate::Evaluator::recur-returns : goal.evaluate::Evaluator::recur-returns
evaluate::Evaluator::recur-returns t c =
    let w = c.args.work.now in
    let v = c.drop_outs.new.self in
    let y = c.make_hubs.new.self in
    let z = c.take_arrows.new.work in
    let h = c.find_hubs-hubs.result in
    let n = c.find_hubs-hubs.ensures in
    let r = get_or c.in_ok-part.part 0 0 in
    let made = c.in_ok-make_hubs.ensures in
    let taken = c.in_ok-take_arrows.ensures in
    let more = hubs_add h.rule.place h.rule.frame h.set (members h) (course_of v) (course_of y) made.told.0 in
    let low : r < vec_len v.nodes = omega (arith, evaluated c.in_ok-part.ensures 0, c.drop_outs.ensures.sizes) in
    let on : get_or (members h) r false ≡ true = ap (λ (s : List Bool). get_or s r false) n.nodes ∙ reached_root (vec_items v.arrows) (vec_len v.nodes) r low in
    let stands : Stands h (size z) = omega (arith, n.first, more, v.nodes.ok.0, y.nodes.ok.0, taken.run.told.2) in
    at_recursion h c.extent-after.result.arrows c.in_map.result c.in_ok-part.ensures (c.extent-before.ensures.outs ∙ w.outs.ok.0) c.drop_outs.ensures.rest c.drop_outs.ensures.outs c.drop_outs.ensures.sizes
    c.in_set.ensures n made (c.extent-after.ensures.arrows ∙ v.arrows.ok.0) taken c.in_map.ensures (hubs_there h r (size z) c.in_map.result c.in_map.ensures on stands (omega (arith, low, made.told.2, taken.run.told.2)))

-- one arrow after the other
pub recursion::Recursion::take_arrows-take_arrow-requires : goal.recursion::Recursion::take_arrows-take_arrow-requires
recursion::Recursion::take_arrows-take_arrow-requires t c =
    let w = c.args.work.now in
    let v = c.loop-k.work in
    let i = c.loop-k.invariant in
    let k = c.loop-k.k in
    let lt : k < c.args.count = c.loop-k-test.true in
    let e = get_or_read (vec_items v.arrows) k c.index-arrow.result.now (omega (arith, i.known, v.arrows.ok.0, lt)) c.index-arrow.ensures lost in
    let s = same_front (vec_items v.arrows) (vec_items w.arrows) c.args.count k lost lt i.same in (
      omega arith,
      (
        (
          bound_up (size w) (size v) c.args.self.now.around.now.env i.going.grows c.requires.ready.0,
          omega (arith, c.requires.ready.1, i.going.grows),
        ),
        subst (λ a. Crosses c.args.self.now.hubs.now a) (sym (e ∙ s)) (c.requires.crosses k lt),
      ),
    )

pub recursion::Recursion::take_arrows-returns-in_err-take_arrow : goal.recursion::Recursion::take_arrows-returns-in_err-take_arrow
recursion::Recursion::take_arrows-returns-in_err-take_arrow t c =
    let w = c.args.work.now in
    let v = c.loop-k.work in
    let i = c.loop-k.invariant in
    let k = c.loop-k.k in
    let lt : k < c.args.count = c.loop-k-test.true in
    let s = taken_at (vec_items v.arrows) (vec_items w.arrows) c.args.count k c.index-arrow.result.now lt (omega (arith, i.known, v.arrows.ok.0)) i.same c.index-arrow.ensures in
    let long = length-take-le c.args.count (vec_items w.arrows) (omega (arith, c.requires.known, w.arrows.ok.0)) in
    record { run = going_stops lost c.from_residual.result i.going (omega (arith, long, lt)) (rw (← s) c.in_err-take_arrow.ensures.run) c.from_residual.ensures.1 }

pub recursion::Recursion::take_arrows-loop-k-preserved : goal.recursion::Recursion::take_arrows-loop-k-preserved
recursion::Recursion::take_arrows-loop-k-preserved t c =
    let w = c.args.work.now in
    let v = c.loop-k.work in
    let u = c.take_arrow.new.work in
    let i = c.loop-k.invariant in
    let k = c.loop-k.k in
    let lt : k < c.args.count = c.loop-k-test.true in
    let s = taken_at (vec_items v.arrows) (vec_items w.arrows) c.args.count k c.index-arrow.result.now lt (omega (arith, i.known, v.arrows.ok.0)) i.same c.index-arrow.ensures in
    let long = length-take-le c.args.count (vec_items w.arrows) (omega (arith, c.requires.known, w.arrows.ok.0)) in
    let did = c.in_ok-take_arrow.ensures in
    let g = begins_kept (vec_items v.arrows) (vec_items u.arrows) c.args.count (turn_kept c.args.self.now.hubs.now k c.index-arrow.result.now did) (omega (arith, i.known, v.arrows.ok.0)) in
    record {
      going = going_on lost i.going (omega (arith, long, lt)) (rw (← s) did.run);
      same = g.0 ∙ i.same;
      known = omega (arith, g.1, u.arrows.ok.0);
    }

pub recursion::Recursion::take_arrows-returns : goal.recursion::Recursion::take_arrows-returns
recursion::Recursion::take_arrows-returns t c =
    let w = c.args.work.now in
    let long = length-take-le c.args.count (vec_items w.arrows) (omega (arith, c.requires.known, w.arrows.ok.0)) in
    record { run = going_ends c.loop-k.invariant.going (omega (arith, long, c.loop-k-test.false)) }

-- one arrow
pub recursion::Recursion::take_arrow-returns-then-not-hubs-arrow : goal.recursion::Recursion::take_arrow-returns-then-not-hubs-arrow
recursion::Recursion::take_arrow-returns-then-not-hubs-arrow t c =
    let h = c.args.self.now.hubs.now in
    let a = c.args.arrow in
    turn_past h c.args.k a (get_or-take h.first h.marks a.tail false c.requires.crosses.tail ∙ c.if-not-hubs-arrow.true)

pub recursion::Recursion::take_arrow-link_hubs-requires-clause-tails : goal.recursion::Recursion::take_arrow-link_hubs-requires-clause-tails
recursion::Recursion::take_arrow-link_hubs-requires-clause-tails t c =
    let h = c.args.self.now.hubs.now in
    let a = c.args.arrow in
    let on : get_or (members h) a.tail false ≡ true = get_or-take h.first h.marks a.tail false c.requires.crosses.tail ∙ c.if-not-hubs-arrow.false in
    hubs_there h a.tail (size c.args.work.now) (hubs_at h a.tail) refl on c.requires.ready.1 (omega (arith, c.requires.ready.0 0))

pub recursion::Recursion::take_arrow-link_hubs-requires-clause-heads : goal.recursion::Recursion::take_arrow-link_hubs-requires-clause-heads
recursion::Recursion::take_arrow-link_hubs-requires-clause-heads t c =
    let h = c.args.self.now.hubs.now in
    let a = c.args.arrow in
    let on : get_or (members h) a.tail false ≡ true = get_or-take h.first h.marks a.tail false c.requires.crosses.tail ∙ c.if-not-hubs-arrow.false in
    hubs_there h a.head (size c.args.work.now) (hubs_at h a.head) refl (c.requires.crosses.closed on) c.requires.ready.1 (omega (arith, c.requires.ready.0 0))

pub recursion::Recursion::take_arrow-returns-then-is_blank : goal.recursion::Recursion::take_arrow-returns-then-is_blank
recursion::Recursion::take_arrow-returns-then-is_blank t c =
    let h = c.args.self.now.hubs.now in
    let a = c.args.arrow in
    turn_blank h c.args.k a (get_or-take h.first h.marks a.tail false c.requires.crosses.tail ∙ c.if-not-hubs-arrow.false) (sym c.is_blank.ensures ∙ c.if-is_blank.true) c.link_hubs.ensures

pub recursion::Recursion::take_arrow-returns-else-is_blank : goal.recursion::Recursion::take_arrow-returns-else-is_blank
recursion::Recursion::take_arrow-returns-else-is_blank t c =
    let h = c.args.self.now.hubs.now in
    let a = c.args.arrow in
    turn_body h c.args.k a (get_or-take h.first h.marks a.tail false c.requires.crosses.tail ∙ c.if-not-hubs-arrow.false) (sym c.is_blank.ensures ∙ c.if-is_blank.false) c.run_body.ensures

-- the body
pub recursion::Recursion::run_body-returns-in_err-frame : goal.recursion::Recursion::run_body-returns-in_err-frame
recursion::Recursion::run_body-returns-in_err-frame t c = body_frame c.args.self.now.hubs.now c.args.k c.args.arrow c.from_residual.result c.in_err-frame.ensures c.from_residual.ensures.1

pub recursion::Recursion::run_body-returns-in_err-into : goal.recursion::Recursion::run_body-returns-in_err-into
recursion::Recursion::run_body-returns-in_err-into t c =
    body_eval c.args.self.now.hubs.now c.args.k c.args.arrow c.deeper.result c.from_residual-in_err-into.result c.deeper.ensures c.in_ok-frame.ensures c.in_err-into.ensures c.from_residual-in_err-into.ensures.1

pub recursion::Recursion::run_body-link_all-requires-clause-tails : goal.recursion::Recursion::run_body-link_all-requires-clause-tails
recursion::Recursion::run_body-link_all-requires-clause-tails t c =
    let v = c.evaluate.new.work in
    let more : size c.args.work.now ≤ size v = omega (arith, c.in_ok-frame.ensures.told.2, c.in_ok-into.ensures.run.told.3) in
    hubs_there c.args.self.now.hubs.now c.args.arrow.tail (size v) c.in_map.result c.in_map.ensures c.requires.reached (omega (arith, c.requires.ready.1, more)) (omega (arith, c.requires.ready.0 0, more))

pub recursion::Recursion::run_body-returns-in_err-link_all : goal.recursion::Recursion::run_body-returns-in_err-link_all
recursion::Recursion::run_body-returns-in_err-link_all t c =
    body_link c.args.self.now.hubs.now c.args.k c.args.arrow c.deeper.result c.in_map.result c.from_residual-in_err-link_all.result c.deeper.ensures c.in_map.ensures
    c.in_ok-frame.ensures c.in_ok-into.ensures c.in_err-link_all.ensures c.from_residual-in_err-link_all.ensures.1

pub recursion::Recursion::run_body-tie_outs-requires-clause-into : goal.recursion::Recursion::run_body-tie_outs-requires-clause-into
recursion::Recursion::run_body-tie_outs-requires-clause-into t c =
    let y = c.link_all.new.self in
    let more : size c.args.work.now ≤ size y = omega (arith, c.in_ok-frame.ensures.told.2, c.in_ok-into.ensures.run.told.3, c.in_ok-link_all.ensures.told.2) in
    hubs_there c.args.self.now.hubs.now c.args.arrow.head (size y) c.in_map-2.result c.in_map-2.ensures (c.requires.crosses.closed c.requires.reached) (omega (arith, c.requires.ready.1, more)) (omega (arith, c.requires.ready.0 0, more))

pub recursion::Recursion::run_body-returns-in_err-tie_outs : goal.recursion::Recursion::run_body-returns-in_err-tie_outs
recursion::Recursion::run_body-returns-in_err-tie_outs t c =
    body_tie c.args.self.now.hubs.now c.args.k c.args.arrow c.deeper.result c.in_map.result c.in_map-2.result c.from_residual-in_err-tie_outs.result c.deeper.ensures c.in_map.ensures c.in_map-2.ensures
    c.in_ok-frame.ensures c.in_ok-into.ensures c.in_ok-link_all.ensures (c.len-base.ensures ∙ c.args.work.now.outs.ok.0) (c.len-end.ensures ∙ c.link_all.new.self.outs.ok.0)
    c.in_err-tie_outs.ensures c.from_residual-in_err-tie_outs.ensures.1

pub recursion::Recursion::run_body-returns : goal.recursion::Recursion::run_body-returns
recursion::Recursion::run_body-returns t c =
    body_done c.args.self.now.hubs.now c.args.k c.args.arrow c.deeper.result c.in_map.result c.in_map-2.result c.deeper.ensures c.in_map.ensures c.in_map-2.ensures
    c.in_ok-frame.ensures c.in_ok-into.ensures c.in_ok-link_all.ensures (c.len-base.ensures ∙ c.args.work.now.outs.ok.0) (c.len-end.ensures ∙ c.link_all.new.self.outs.ok.0)
    c.in_ok-tie_outs.ensures c.drop_outs.ensures.rest c.drop_outs.ensures.outs c.drop_outs.ensures.sizes
