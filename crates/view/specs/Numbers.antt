-- Class numbers: labels of two tables, told apart by numbers. Assumes nothing.
--
-- ms are the meanings of the source arrows' labels, ns those of the constants.
--   ByArrow ms m c         c is the lowest source arrow whose label has the meaning m
--   ByConstant ms ns m c   no source arrow's label has the meaning m, and c is 256 and the lowest constant that has it
--   Nowhere ms ns m        no label has it
--   Found ms ns m c        a label with the meaning m stands in one of the tables, and c is its class number
--   Numbered ms ns m c     c is the class number of a label with the meaning m; of one that stands in neither, any number
--   NumberedBelow meaning as ks ls cs n    of the source arrows' labels as and the constants ks, cs has the class number
--                          of each of the first n labels of ls
--   AllNumbered meaning as ks ls cs    it has those of all of them
use Rattle.std.specs.Prelude.{◌≡◌, ℕ, ◌+◌, ◌<◌, ◌⊎◌, List, map, length, Some, slice_index}
use Rattle.std.specs.List.{slice_get}
use Rattle.kinds.specs.Classes.{Absent}

pub record ByArrow {M : Type 0} (ms : List M) (m : M) (c : ℕ) : Type 0 where
  pub here : slice_get ms c ≡ Some m
  pub lowest : Absent ms m c
  pub few : c < 256

pub record ByConstant {M : Type 0} (ms ns : List M) (m : M) (c : ℕ) : Type 0 where
  pub no_arrow : Absent ms m (length ms)
  pub constant : ℕ
  pub is : c ≡ 256 + constant
  pub here : slice_get ns constant ≡ Some m
  pub lowest : Absent ns m constant

pub record Nowhere {M : Type 0} (ms ns : List M) (m : M) : Type 0 where
  pub no_arrow : Absent ms m (length ms)
  pub no_constant : Absent ns m (length ns)

abbrev pub Found : {M : Type 0} → List M → List M → M → ℕ → Type 0
Found ms ns m c = ByArrow ms m c ⊎ ByConstant ms ns m c

abbrev pub Numbered : {M : Type 0} → List M → List M → M → ℕ → Type 0
Numbered ms ns m c = ByArrow ms m c ⊎ (ByConstant ms ns m c ⊎ Nowhere ms ns m)

abbrev pub NumberedBelow : {L M : Type 0} → (L → M) → List L → List L → List L → List ℕ → ℕ → Type 0
NumberedBelow {L} meaning labels constants ls cs n =
    (k : ℕ) (x : L) → k < n → slice_get ls k ≡ Some x →
    Numbered (map meaning labels) (map meaning constants) (meaning x) (slice_index cs k)

abbrev pub AllNumbered : {L M : Type 0} → (L → M) → List L → List L → List L → List ℕ → Type 0
AllNumbered meaning labels constants ls cs = NumberedBelow meaning labels constants ls cs (length ls)
