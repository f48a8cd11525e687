use Rattle.std.proofs.Common.{◌≡◌, ℕ, ◌-◌, ◌≤◌, length, get_or}
use Rattle.expression.proofs.Levelling.{Levelled}
use Rattle.expression.proofs.table.Table.levels.Given as goal

abbrev pub invariant-loop-place : goal.invariant-loop-place
invariant-loop-place l =
    (length l.levels ≡ 64)
    × ((p : ℕ) → get_or l.levels p 0 ≤ length l.self.forms.items - l.place)
    × Levelled l.self.forms.items l.place l.levels
