-- What each refusal of admission is: its number, the place that it names, and how it is printed.
-- Assumes nothing.
--
--   meaning r      the number of the refusal r, and the place that it names, if any
--   number_of r    its number
--   place_of r     its place
--   with_place     a text, and behind it the place, if there is one
--   printed r      the refusal as it is printed, as `11` or `14 place=3`
use Rattle.std.specs.Prelude.{ℕ, List, ◌++◌, Some, None, Option, codes}
use Rattle.std.specs.Fmt.{decimal}
use Rattle.expression.specs.declared.refusal.Refusal.{Refusal}
use Rattle.expression.specs.declared.refusal.Refusal.TheVariants.{Size, IllFormed, NotPartOnce, OutOfRange, SetsUnfit}

abbrev pub meaning : Refusal → ℕ × Option ℕ
meaning Size = (11, None)
meaning (IllFormed place) = (12, Some place)
meaning (NotPartOnce place) = (13, Some place)
meaning (OutOfRange place) = (14, Some place)
meaning (SetsUnfit place) = (15, Some place)

abbrev pub number_of : Refusal → ℕ
number_of r = (meaning r).0

abbrev pub place_of : Refusal → Option ℕ
place_of r = (meaning r).1

abbrev pub with_place : List ℕ → Option ℕ → List ℕ
with_place text None = text
with_place text (Some place) = text ++ codes " place=" ++ decimal place

abbrev pub printed : Refusal → List ℕ
printed r = with_place (decimal (number_of r)) (place_of r)
