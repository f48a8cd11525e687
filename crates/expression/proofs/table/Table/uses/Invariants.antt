use Rattle.std.proofs.Common.{◌≡◌, ℕ, ◌<◌, length, get_or}
use Rattle.expression.specs.Parts.{uses}
use Rattle.expression.proofs.table.Table.uses.Given as goal

abbrev pub invariant-loop-form : goal.invariant-loop-form
invariant-loop-form l = (length l.counts ≡ 64) × ((p : ℕ) → p < 64 → get_or l.counts p 0 ≡ uses l.self.forms.items l.form-index p)
