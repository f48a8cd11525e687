use Rattle.std.proofs.Common.{vec_items}
use Rattle.walks.specs.Visits.{visiting}
use Rattle.walks.proofs.Chains.{Following, bound}
use Rattle.walks.proofs.step_table.StepTableSteps.visit_heads.Given as goal

abbrev pub invariant-loop-at : goal.invariant-loop-at
invariant-loop-at l = Following (vec_items l.self.steps) l.node l.at (visiting l.visits) (visiting l.initial.visits)

abbrev pub decreases-loop-at : goal.decreases-loop-at
decreases-loop-at l = bound l.at
