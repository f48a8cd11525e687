use Rattle.std.proofs.Common.{◌+◌, drop, sym, ap, ◌∙◌}
use Rattle.walks.specs.Reach.{lead}
use Rattle.walks.specs.Visits.{visiting, visit_each}
use Rattle.rows.specs.Heads.{heads_by}
use Rattle.rows.proofs.Heading.{heads_yes, heads_no, heads_end, heads_exact}
use Rattle.rows.proofs.shown.ShowingSteps.visit_heads.Goals as goal
use Rattle.rows.proofs.shown.ShowingSteps.visit_heads.Goals.{then-leads, else-leads}

pub loop-arrow-preserved : goal.loop-arrow-preserved
loop-arrow-preserved c =
    let near = c.walk-near.result in
    let arrows = c.args.self.now.arrows.now in
    let k = c.loop-arrow.arrow-index in
    let before = visiting c.loop-arrow.visits in
    let rest = visit_each (heads_by near (drop (k + 1) arrows)) in
    elim c.if-leads.branch [
      | then-leads w ↦
          ap (λ v. rest (visiting v)) w.visits-is ∙ ap rest w.visit.ensures ∙ sym (heads_yes near arrows k before c.loop-arrow-test.true (sym w.if-leads.ensures)) ∙ c.loop-arrow.invariant
      | else-leads w ↦
          ap (λ v. rest (visiting v)) w.visits-is ∙ sym (heads_no near arrows k before c.loop-arrow-test.true (sym w.if-leads.ensures)) ∙ c.loop-arrow.invariant
    ]

pub returns : goal.returns
returns c =
    let near = c.walk-near.result in
    let showing = c.args.self.now in
    let arrows = showing.arrows.now in
    record {
      heads = heads_by near arrows;
      exact = heads_exact arrows c.args.node near showing.fit (c.walk-near.ensures.marks ∙ ap (λ s. lead 1024 s c.args.node) showing.linked);
      visited = sym (heads_end near arrows c.loop-arrow.arrow-index (visiting c.loop-arrow.visits) c.loop-arrow-test.false) ∙ c.loop-arrow.invariant;
    }
