use Rattle.course.specs.Forward.{link_at}
use Rattle.course.proofs.Loops.{Going}
use Rattle.course.proofs.workspace.Workspace.link_all.Given as goal

abbrev pub invariant-loop-marker : goal.invariant-loop-marker
invariant-loop-marker l = Going (link_at l.rule.place l.rule.frame l.tails l.heads) l.fn.set l.marker l.initial.self l.self
