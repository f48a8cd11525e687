use Rattle.std.proofs.Common.{◌≡◌, drop}
use Rattle.walks.specs.Visits.{visiting, visit_each}
use Rattle.rows.specs.Heads.{heads_by}
use Rattle.rows.proofs.shown.ShowingSteps.visit_heads.Given as goal

abbrev pub invariant-loop-arrow : goal.invariant-loop-arrow
invariant-loop-arrow l = visit_each (heads_by l.near (drop l.arrow-index l.self.arrows.now)) (visiting l.visits) ≡ visit_each (heads_by l.near l.self.arrows.now) (visiting l.initial.visits)
