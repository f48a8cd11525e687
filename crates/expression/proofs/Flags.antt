-- Tests of two marker sets, flag by flag. Assumes nothing.
use Rattle.std.proofs.Common.{◌≡◌, ℕ, zero, suc, ◌<◌, Bool, true, false, not, ◌&&◌, ◌||◌, List, [], ◌∷◌, length, get_or, sym, refl, ap, ◌∙◌, ap₂, le_of_suc-le-suc, not-suc-le-zero, arith}
use mathlib.Core.Bool.{beq}
use Rattle.std.specs.Bool.{MatchBool}
use Rattle.std.specs.List.{list_all, zip, AllWithin, HoldsAt}
use Rattle.std.specs.Cmp.Lexicographic.{pointwise}
use Rattle.std.proofs.lemmas.Bool.{and_from}
use Rattle.std.proofs.lemmas.List.{ext_get_or}
use Rattle.std.proofs.lemmas.List.Folds.{list_all_at}
use Rattle.expression.specs.Markers.{both, equal_flags, alike, within}

same_flags : (a b : Bool) → beq a b ≡ equal_flags a b
same_flags true true = refl
same_flags true false = refl
same_flags false true = refl
same_flags false false = refl

-- sets that are equal
pub equal_sets : (xs ys : List Bool) → pointwise beq xs ys ≡ alike xs ys
equal_sets [] [] = refl
equal_sets [] (y ∷ ys) = refl
equal_sets (x ∷ xs) [] = refl
equal_sets (x ∷ xs) (y ∷ ys) = ap₂ ◌&&◌ (same_flags x y) (equal_sets xs ys)

all_within : (xs ys : List Bool) → length xs ≡ length ys → list_all (λ (flags : Bool × Bool). not flags.0 || flags.1) (zip xs ys) ≡ within xs ys
all_within [] ys e = refl
all_within (x ∷ xs) [] e = absurd (omega arith)
all_within (x ∷ xs) (y ∷ ys) e = ap (λ (b : Bool). (not x || y) && b) (all_within xs ys (omega arith))

each_passes : {X : Type 0} (p : X → Bool) (xs : List X) → AllWithin (λ x. p x ≡ true) xs 0 (length xs) → list_all p xs ≡ true
each_passes p [] h = refl
each_passes p (x ∷ xs) h =
    and_from _ _ (h 0 x (omega arith) (omega arith)) (each_passes p xs (λ k d l m. h (suc k) d (omega arith) (omega arith)))

-- what a walk over both sets tells
pub within_tells : (xs ys : List Bool) → length xs ≡ length ys → (r : Bool)
    → MatchBool r (AllWithin (λ (flags : Bool × Bool). (not flags.0 || flags.1) ≡ true) (zip xs ys) 0 (length (zip xs ys)))
    ((k : ℕ) × (k < length (zip xs ys)) × HoldsAt (λ (flags : Bool × Bool). (not flags.0 || flags.1) ≡ false) (zip xs ys) k)
    → r ≡ within xs ys
within_tells xs ys e true h = sym (each_passes (λ (flags : Bool × Bool). not flags.0 || flags.1) (zip xs ys) h) ∙ all_within xs ys e
within_tells xs ys e false h =
    sym (list_all_at (λ (flags : Bool × Bool). not flags.0 || flags.1) (zip xs ys) h.0 (false, false) h.1 (h.2 (false, false))) ∙ all_within xs ys e

both_at : (xs ys : List Bool) (i : ℕ) → length xs ≡ length ys → i < length xs → (get_or xs i false || get_or ys i false) ≡ get_or (both xs ys) i false
both_at [] ys i e h = absurd (not-suc-le-zero h)
both_at (x ∷ xs) [] i e h = let z : ⊥ = omega arith in absurd z
both_at (x ∷ xs) (y ∷ ys) zero e h = refl
both_at (x ∷ xs) (y ∷ ys) (suc i) e h = both_at xs ys i (omega arith) (le_of_suc-le-suc h)

length_both : (xs ys : List Bool) → length xs ≡ length ys → length (both xs ys) ≡ length xs
length_both [] ys e = sym e
length_both (x ∷ xs) [] e = refl
length_both (x ∷ xs) (y ∷ ys) e = ap suc (length_both xs ys (omega arith))

-- a list that has each flag of the two sets
pub both_from : (xs ys zs : List Bool) → length xs ≡ length ys → length zs ≡ length xs
    → ((k : ℕ) → k < length xs → get_or zs k false ≡ (get_or xs k false || get_or ys k false)) → zs ≡ both xs ys
both_from xs ys zs e f h =
    ext_get_or false zs (both xs ys) (f ∙ sym (length_both xs ys e)) (λ k l. let m : k < length xs = omega arith in h k m ∙ both_at xs ys k e m)
