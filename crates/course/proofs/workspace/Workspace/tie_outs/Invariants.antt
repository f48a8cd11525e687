use Rattle.std.proofs.Common.{◌≡◌, ◌-◌, ◌≤◌, take, drop}
use Rattle.course.specs.Course.{each}
use Rattle.course.specs.Forward.{tie}
use Rattle.course.specs.View.{course_of, stack, size}
use Rattle.course.proofs.workspace.Workspace.tie_outs.Given as goal

-- the whole run is the run over the outs that are left, from here
abbrev pub invariant-loop-i : goal.invariant-loop-i
invariant-loop-i l =
    (each (tie l.rule.place l.rule.frame l.set l.into) (take (l.mid - l.base) (drop l.base (stack l.initial.self))) (course_of l.initial.self)
    ≡ each (tie l.rule.place l.rule.frame l.set l.into) (take (l.mid - l.i) (drop l.i (stack l.initial.self))) (course_of l.self))
    × (stack l.self ≡ stack l.initial.self)
    × (size l.initial.self ≤ size l.self)
