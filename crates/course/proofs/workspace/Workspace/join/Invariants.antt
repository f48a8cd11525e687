use Rattle.std.proofs.Common.{◌≡◌, ℕ, ◌≤◌, ◌++◌, length, get_or, take, drop}
use Rattle.course.specs.Course.{onward, give, nodes_for}
use Rattle.course.specs.Forward.{joint}
use Rattle.course.specs.View.{course_of, stack, size, Within}
use Rattle.course.proofs.workspace.Workspace.join.Given as goal

-- the whole run is the run over the markers that are left, from here
abbrev pub invariant-loop-marker : goal.invariant-loop-marker
invariant-loop-marker l =
    record {
      run : nodes_for (joint l.rule.place l.rule.frame l.left l.right) 0 l.fn.set (course_of l.initial.self)
          ≡ onward (nodes_for (joint l.rule.place l.rule.frame l.left l.right) l.marker (drop l.marker l.fn.set) (course_of l.self)) (λ vs. give (take l.marker l.into ++ vs));
      stands : stack l.self ≡ stack l.initial.self;
      grows : size l.initial.self ≤ size l.self;
      within : Within (size l.self) l.into;
      long : length l.into ≡ 8;
      rest : (k : ℕ) → l.marker ≤ k → get_or l.into k 0 ≡ 0;
    }
