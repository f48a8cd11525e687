use Rattle.std.proofs.Common.{◌≡◌, ℕ, ◌<◌, ◌≤◌, false, cond, length, get_or}
use Rattle.course.specs.Hubs.{hub}
use Rattle.course.specs.Recursions.{members}
use Rattle.course.proofs.hub_table.Hubs.in_map.Given as goal

abbrev pub invariant-loop-marker : goal.invariant-loop-marker
invariant-loop-marker l =
    (length l.into ≡ 8)
    × ((k : ℕ) → k < l.marker → get_or l.into k 0 ≡ cond (get_or l.self.set k false) (hub (members l.self) l.self.set l.self.first l.node k) 0)
    × ((k : ℕ) → l.marker ≤ k → get_or l.into k 0 ≡ 0)
