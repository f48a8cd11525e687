use Rattle.std.proofs.Common.{◌≡◌, ℕ, ◌<◌, length}
use Rattle.expression.specs.Sets.{row, sets_at}
use Rattle.expression.proofs.table.Table.sets.Given as goal

abbrev pub invariant-loop-place : goal.invariant-loop-place
invariant-loop-place l = (length l.sets ≡ 64) × ((k : ℕ) → k < l.place → row l.sets k ≡ sets_at l.self.forms.items k)
