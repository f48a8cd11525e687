-- The lines of a text. Assumes nothing.
--
--   lines_of bs    the pieces of bs between the line ends, which are bytes 10. What comes after the last line end
--                 is a line too, unless it is empty
use Rattle.std.specs.Prelude.{ℕ, cond, List, [], ◌∷◌, ◌==◌}

-- a byte put before the first line
abbrev pub before : ℕ → List (List ℕ) → List (List ℕ)
before b [] = (b ∷ []) ∷ []
before b (line ∷ lines) = (b ∷ line) ∷ lines

abbrev pub lines_of : List ℕ → List (List ℕ)
lines_of [] = []
lines_of (b ∷ bs) = cond (b == 10) ([] ∷ lines_of bs) (before b (lines_of bs))
