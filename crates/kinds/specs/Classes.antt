-- Class numbers: the lowest label that is the same. Assumes nothing.
--
--   Absent ms m n        no place of ms below n has the meaning m
--   LowestSame ms m r    r is the lowest place of ms that has the meaning m, if there is one
--   Class ms i c         c is the lowest place of ms that has the meaning at the place i
--   Classes ms cs        cs has the class of each place of ms
use Rattle.std.specs.Prelude.{◌≡◌, ℕ, ◌<◌, ◌≤◌, List, length, Some, Option, MatchOption, ◌≢◌, slice_index}
use Rattle.std.specs.List.{slice_get}

abbrev pub Absent : {M : Type 0} → List M → M → ℕ → Type 0
Absent ms m n = (k : ℕ) → k < n → slice_get ms k ≢ Some m

abbrev pub LowestSame : {M : Type 0} → List M → M → Option ℕ → Type 0
LowestSame ms m r = MatchOption r (Absent ms m (length ms)) (λ i. (slice_get ms i ≡ Some m) × Absent ms m i)

pub record Class {M : Type 0} (ms : List M) (i c : ℕ) : Type 0 where
  pub within : c ≤ i
  pub equal : slice_get ms c ≡ slice_get ms i
  pub lowest : (k : ℕ) → k < c → slice_get ms k ≢ slice_get ms i

abbrev pub Classes : {M : Type 0} → List M → List ℕ → Type 0
Classes ms cs = (i : ℕ) → i < length ms → Class ms i (slice_index cs i)
