-- Fields of a text. Assumes nothing.
--
--   field_text f n    the letter of the field f, a colon, and the digits of n
--   Fills f bs n      the bytes bs are the letter of the field f, a colon, and digits that come to n
use Rattle.std.specs.Prelude.{◌≡◌, ℕ, List, ◌∷◌}
use Rattle.kinds.specs.declared.field.Field.{Field}
use Rattle.kinds.specs.Digits.{radix_of, spelled, Spells}

abbrev pub field_text : Field → ℕ → List ℕ
field_text f n = f.letter ∷ 58 ∷ spelled (radix_of f.base) f.width n

pub record Fills (f : Field) (bs : List ℕ) (n : ℕ) : Type 0 where
  pub rest : List ℕ
  pub begins : bs ≡ f.letter ∷ 58 ∷ rest
  pub spells : Spells (radix_of f.base) rest n
