use Rattle.course.specs.Forward.{hub_step}
use Rattle.course.proofs.Loops.{Going}
use Rattle.course.proofs.workspace.Workspace.make_markers.Given as goal

abbrev pub invariant-loop-marker : goal.invariant-loop-marker
invariant-loop-marker l = Going (hub_step l.rule.place l.rule.frame l.stands) l.fn.set l.marker l.initial.self l.self
