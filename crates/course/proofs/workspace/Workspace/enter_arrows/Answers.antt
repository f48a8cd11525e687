use Rattle.std.proofs.Common.{◌≡◌, ℕ, ◌+◌, ◌<◌, List, [], length, get_or, take, sym, subst, refl, ap, ◌∙◌, arith}
use Rattle.std.proofs.lemmas.List.{get_or-take, length-take-le}
use Rattle.course.specs.declared.course.Origin.TheVariants.{Source}
use Rattle.course.specs.Course.{Course, link}
use Rattle.course.specs.Opening.{source_nodes}
use Rattle.course.specs.View.{course_of, with_arrow, with_arrows}
use Rattle.course.proofs.Ends.{inside_at, joined_ends}
use Rattle.course.proofs.Openings.{nodes_long, arrows_more}
use Rattle.course.proofs.workspace.Workspace.enter_arrows.Goals as goal

pub loop-k-init : goal.loop-k-init
loop-k-init c =
    let w = c.args.self.now in
    let n = c.args.source.now.nodes in (
      c.requires,
      refl,
      w.nodes.ok.0 ∙ ap (λ (x : Course). length x.nodes) c.requires ∙ nodes_long 0 n,
      w.arrows.ok.0 ∙ ap (λ (x : Course). length x.arrows) c.requires,
    )

pub push_arrow-requires : goal.push_arrow-requires
push_arrow-requires c =
    let s = c.args.source.now in
    let k = c.loop-k.k in
    let e = c.deref-tail-items.ensures.0 in
    let lt : k < length s.arrows.items = omega (arith, c.loop-k-test.true, ap length e) in
    let j = joined_ends s.nodes (get_or c.deref-tail-items.result.now k (0, 0)) (rw e (inside_at s.nodes s.arrows.items k lt s.ends)) in (
      omega (arith, j.0, c.loop-k.invariant.2),
      (
        omega (arith, j.1, c.loop-k.invariant.2),
        omega (arith, c.loop-k.invariant.3, lt, s.few_arrows),
      ),
    )

pub loop-k-preserved : goal.loop-k-preserved
loop-k-preserved c =
    let s = c.args.source.now in
    let k = c.loop-k.k in
    let xs = c.deref-tail-items.result.now in
    let e = c.deref-tail-items.ensures.0 in
    let a = get_or xs k (0, 0) in
    let lt : k < length xs = c.loop-k-test.true in (
      subst (λ (ys : List (ℕ × ℕ)). course_of c.push_arrow.new.self ≡ with_arrows s.nodes (take (k + 1) ys)) e
          (c.push_arrow.ensures.items ∙ ap (with_arrow (link a.0 a.1 (Source k) 64 0)) (rw (← e) at c.loop-k.invariant.0)
          ∙ ap (λ ys. record { nodes = source_nodes 0 s.nodes; arrows = ys; frames = []; comparisons = [] }) (arrows_more xs k lt (length-take-le k xs (omega (arith, lt))))),
      c.push_arrow.ensures.same ∙ c.loop-k.invariant.1,
      c.push_arrow.ensures.nodes ∙ c.loop-k.invariant.2,
      omega (arith, c.push_arrow.ensures.len, c.loop-k.invariant.3),
    )
