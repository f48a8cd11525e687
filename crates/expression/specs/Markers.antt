-- Sets of markers. Assumes nothing.
--
-- A marker is a number from 0 to 7. A set of markers is a list of eight flags, one for each marker.
--   no_markers    the empty set
--   just m        the set that has m alone
--   both a b      the markers that a or b has
--   alike a b     whether a and b have the same markers
--   apart a b     whether a and b have no marker in common
--   within a b    whether b has every marker of a
use Rattle.std.specs.Prelude.{ℕ, Bool, true, false, not, ◌&&◌, ◌||◌, List, [], ◌∷◌, replicate, slice_set}
use Rattle.std.specs.List.{list_all, zip}

abbrev pub no_markers : List Bool
no_markers = replicate 8 false

abbrev pub just : ℕ → List Bool
just m = slice_set no_markers m true

abbrev pub both : List Bool → List Bool → List Bool
both [] bs = bs
both (a ∷ more) [] = a ∷ more
both (a ∷ more) (b ∷ bs) = (a || b) ∷ both more bs

abbrev pub equal_flags : Bool → Bool → Bool
equal_flags true b = b
equal_flags false b = not b

abbrev pub alike : List Bool → List Bool → Bool
alike [] [] = true
alike [] (b ∷ bs) = false
alike (a ∷ more) [] = false
alike (a ∷ more) (b ∷ bs) = equal_flags a b && alike more bs

abbrev pub apart : List Bool → List Bool → Bool
apart a b = list_all (λ flags. not (flags.0 && flags.1)) (zip a b)

abbrev pub within : List Bool → List Bool → Bool
within [] bs = true
within (a ∷ more) [] = not a && within more []
within (a ∷ more) (b ∷ bs) = (not a || b) && within more bs
