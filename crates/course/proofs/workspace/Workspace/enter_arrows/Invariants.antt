use Rattle.std.proofs.Common.{◌≡◌, take, vec_len}
use Rattle.course.specs.View.{course_of, stack, size, with_arrows}
use Rattle.course.proofs.workspace.Workspace.enter_arrows.Given as goal

abbrev pub invariant-loop-k : goal.invariant-loop-k
invariant-loop-k l =
    (course_of l.self ≡ with_arrows l.source.nodes (take l.k l.source.arrows.items))
    × (stack l.self ≡ stack l.initial.self)
    × (size l.self ≡ l.source.nodes)
    × (vec_len l.self.arrows ≡ l.k)
