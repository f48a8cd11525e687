use Rattle.std.proofs.Common.{ℕ, Bool, List, sym, ap, ap₂, ◌∙◌, subst}
use Rattle.walks.specs.Visits.{Visiting, visiting, visit_one}
use Rattle.walks.proofs.Walking.{Walk, walk_start, walk_more, left_less, walk_end}
use Rattle.walks.proofs.walk.spread.Goals as goal

pub loop-node-init : goal.loop-node-init
loop-node-init g c =
    let e = c.visit.ensures ∙ ap (visit_one c.args.root) c.requires in
    subst (λ (s : Visiting). Walk (g.S.Steps.steps c.args.steps.now) c.args.root s) (sym e) (walk_start (g.S.Steps.steps c.args.steps.now) c.args.root)

pub loop-node-smaller : goal.loop-node-smaller
loop-node-smaller g c =
    let v = c.visit_heads.ensures in
    left_less c.in-Some.node v.heads (visiting c.loop-node.visits) (visiting c.take_next.new.self) (visiting c.visit_heads.new.visits) c.loop-node.invariant.long c.in-Some.ensures v.visited

pub loop-node-preserved : goal.loop-node-preserved
loop-node-preserved g c =
    let v = c.visit_heads.ensures in
    walk_more (g.S.Steps.steps c.args.steps.now) c.args.root c.in-Some.node v.heads (visiting c.loop-node.visits) (visiting c.take_next.new.self) (visiting c.visit_heads.new.visits)
    (g.met.S.Steps.inside c.args.steps.now) v.exact c.in-Some.ensures v.visited c.loop-node.invariant

pub returns : goal.returns
returns g c =
    let e = c.in_default.ensures in
    let marks = walk_end (g.S.Steps.steps c.args.steps.now) c.args.root (visiting c.loop-node.visits) (g.met.S.Steps.inside c.args.steps.now) e.0 c.loop-node.invariant in
    e.1 ∙ ap₂ (λ (m : List Bool) (l : List ℕ). record { marks = m; listed = l }) marks e.0
