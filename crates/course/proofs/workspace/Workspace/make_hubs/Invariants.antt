use Rattle.course.specs.Forward.{hubs_step}
use Rattle.course.specs.Recursions.{members}
use Rattle.course.proofs.Loops.{Going}
use Rattle.course.proofs.workspace.Workspace.make_hubs.Given as goal

abbrev pub invariant-loop-node : goal.invariant-loop-node
invariant-loop-node l = Going (hubs_step l.hubs.rule.place l.hubs.rule.frame l.hubs.set) (members l.hubs) l.node l.initial.self l.self
