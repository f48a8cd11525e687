use Rattle.std.proofs.Common.{◌≡◌, ℕ, ◌<◌, ◌≤◌, false, cond, length, get_or}
use Rattle.course.proofs.in_map.merge.Given as goal

abbrev pub invariant-loop-marker : goal.invariant-loop-marker
invariant-loop-marker l =
    (length l.into ≡ 8)
    × ((k : ℕ) → k < l.marker → get_or l.into k 0 ≡ cond (get_or l.fn.set k false) (get_or l.left k 0) (get_or l.fn.right k 0))
    × ((k : ℕ) → l.marker ≤ k → get_or l.into k 0 ≡ get_or l.fn.right k 0)
