use Rattle.std.proofs.Common.{◌≡◌, ℕ, ◌<◌, get_or, take}
use Rattle.walks.specs.Reach.{trues}
use Rattle.course.proofs.hubs.rank.Given as goal

abbrev pub invariant-loop-v : goal.invariant-loop-v
invariant-loop-v l = (l.count ≡ trues (take l.v l.flags)) × ((k : ℕ) → k < l.v → get_or l.ranks k 0 ≡ trues (take k l.flags))
