use Rattle.course.specs.Forward.{link_at}
use Rattle.course.specs.Recursions.{hubs_at}
use Rattle.course.proofs.Loops.{Going}
use Rattle.course.proofs.workspace.Workspace.link_hubs.Given as goal

abbrev pub invariant-loop-marker : goal.invariant-loop-marker
invariant-loop-marker l = Going (link_at l.hubs.rule.place l.hubs.rule.frame (hubs_at l.hubs l.tail) (hubs_at l.hubs l.head)) l.hubs.set l.marker l.initial.self l.self
