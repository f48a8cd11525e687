-- Texts of labels. Assumes nothing.
--
--   Tied text meaning    two labels have equal texts exactly when they have equal meanings
--   overlaid bs out      the buffer out with bs written over its start
use Rattle.std.specs.Prelude.{◌≡◌, ℕ, List, ◌++◌, length, drop}

pub record Tied {L M : Type 0} (text : L → List ℕ) (meaning : L → M) : Type 0 where
  pub one_meaning : (x y : L) → text x ≡ text y → meaning x ≡ meaning y
  pub one_text : (x y : L) → meaning x ≡ meaning y → text x ≡ text y

abbrev pub overlaid : List ℕ → List ℕ → List ℕ
overlaid bs out = bs ++ drop (length bs) out
