use Rattle.std.proofs.Common.{◌≡◌}
use Rattle.course.specs.View.{course_of, stack, size, with_nodes}
use Rattle.course.proofs.workspace.Workspace.enter_nodes.Given as goal

abbrev pub invariant-loop-stands : goal.invariant-loop-stands
invariant-loop-stands l = (course_of l.self ≡ with_nodes l.stands) × (stack l.self ≡ stack l.initial.self) × (size l.self ≡ l.stands)
