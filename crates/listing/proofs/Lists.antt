-- The class of a label that comes after others. Assumes nothing.
use Rattle.std.proofs.Common.{◌≡◌, ℕ, zero, suc, ◌<◌, List, [], ◌∷◌, ◌++◌, length, Some, None, Option, unwrap_or, sym, refl, ap, ◌∙◌, arith}
use Rattle.std.specs.List.{slice_get}
use Rattle.std.proofs.lemmas.Option.{slice_get_within}
use Rattle.kinds.specs.Classes.{LowestSame, Class}

-- ---- places of a list with one element more

nth_front : {X : Type 0} (xs : List X) (y : X) (i : ℕ) → i < length xs → slice_get (xs ++ y ∷ []) i ≡ slice_get xs i
nth_front [] y i h = absurd (omega arith)
nth_front (x ∷ xs) y zero h = refl
nth_front (x ∷ xs) y (suc i) h = nth_front xs y i (omega arith)

nth_end : {X : Type 0} (xs : List X) (y : X) (i : ℕ) → i ≡ length xs → slice_get (xs ++ y ∷ []) i ≡ Some y
nth_end [] y zero h = refl
nth_end [] y (suc i) h = absurd (omega arith)
nth_end (x ∷ xs) y zero h = absurd (omega arith)
nth_end (x ∷ xs) y (suc i) h = nth_end xs y i (omega arith)

-- the class of a meaning that comes after others: where it stands first among them, or else its own place
pub class_after : {M : Type 0} (ms : List M) (m : M) (n : ℕ) (r : Option ℕ) (c : ℕ) → n ≡ length ms → LowestSame ms m r → c ≡ unwrap_or r n → Class (ms ++ m ∷ []) n c
class_after ms m n None c here low is =
    record {
      within = omega arith;
      equal = ap (slice_get (ms ++ m ∷ [])) is;
      lowest = λ k lt e. let under : k < length ms = omega arith in low k under (sym (nth_front ms m k under) ∙ e ∙ nth_end ms m n here);
    }
class_after ms m n (Some i) c here low is =
    let inside : i < length ms = slice_get_within ms i m low.0 in
    record {
      within = omega arith;
      equal = ap (slice_get (ms ++ m ∷ [])) is ∙ nth_front ms m i inside ∙ low.0 ∙ sym (nth_end ms m n here);
      lowest = λ k lt e. let under : k < length ms = omega arith in low.1 k (omega arith) (sym (nth_front ms m k under) ∙ e ∙ nth_end ms m n here);
    }
