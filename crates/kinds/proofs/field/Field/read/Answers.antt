use Rattle.std.proofs.Common.{◌≡◌, ℕ, ◌^◌, ◌<◌, List, [], ◌∷◌, drop, Some, None, Option, MatchOption, sym, ap, ◌∙◌, subst}
use Rattle.std.proofs.lemmas.Bool.Decides.{Decides-eqb}
use Rattle.std.proofs.lemmas.Slice.Eq.{strip_prefix_is}
use Rattle.kinds.specs.declared.field.Field.{Field}
use Rattle.kinds.specs.Digits.{radix_of, Spells}
use Rattle.kinds.specs.Fields.{Fills}
use Rattle.kinds.proofs.field.Field.read.Goals as goal

-- what was read of the digits is the number of the field
filled : (f : Field) (text rest : List ℕ) (r : Option ℕ) → text ≡ f.letter ∷ 58 ∷ rest → MatchOption r ((n : ℕ) → n < 2 ^ 32 → Spells (radix_of f.base) rest n → ⊥) (Spells (radix_of f.base) rest) → MatchOption r ((n : ℕ) → n < 2 ^ 32 → Fills f text n → ⊥) (Fills f text)
filled f text rest None begins none = λ n fits fills.
    none n fits (subst (λ (l : List ℕ). Spells (radix_of f.base) l n) (ap (drop 2) (sym fills.begins ∙ begins)) fills.spells)
filled f text rest (Some n) begins spells = record { rest = rest; begins = begins; spells = spells }

pub returns : goal.returns
returns c =
    let f = c.args.self in
    let text = c.args.text.now in
    let digits = c.in_ok-strip_prefix.field-0 in
    filled f text digits.now c.read.result (strip_prefix_is Decides-eqb text (f.letter ∷ 58 ∷ []) (Some digits) c.in_ok-strip_prefix.ensures.cases) c.read.ensures
