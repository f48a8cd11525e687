use Rattle.walks.specs.Visits.{visiting}
use Rattle.walks.proofs.Walking.{Walk, left}
use Rattle.walks.proofs.walk.spread.Given as goal

abbrev pub invariant-loop-node : goal.invariant-loop-node
invariant-loop-node g l = Walk (g.S.Steps.steps l.steps) l.root (visiting l.visits)

abbrev pub decreases-loop-node : goal.decreases-loop-node
decreases-loop-node g l = left (visiting l.visits)
