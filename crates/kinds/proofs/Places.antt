-- What stands at a place of a mapped list, and the class that its lowest place makes. Assumes nothing.
use Rattle.std.proofs.Common.{◌≡◌, ◌≢◌, ℕ, ◌<◌, ◌≤◌, Bool, true, false, List, [], ◌∷◌, map, length, get_or, Some, None, Option, MatchOption, unwrap_or, sym, ap, ◌∙◌, subst, ⊎_elim, arith}
use lib.ListN.{length-map}
use Rattle.std.specs.List.{slice_get, AllWithin, HoldsAt}
use Rattle.std.proofs.lemmas.List.{get_or-map}
use Rattle.std.proofs.lemmas.Option.{slice_get-get_or}
use Rattle.std.proofs.lemmas.Bool.{cases_lt}
use Rattle.kinds.specs.Classes.{Absent, LowestSame, Class}

-- what a mapped list has at a place
nth_map : {X Y : Type 0} (f : X → Y) (xs : List X) (i : ℕ) (d : X) → i < length xs → slice_get (map f xs) i ≡ Some (f (get_or xs i d))
nth_map f xs i d h =
    slice_get-get_or (map f xs) i (f d) (rw length-map h) ∙ ap (λ y. Some y) (get_or-map f xs i d (f d) h)

pub nth_map_read : {X Y : Type 0} (f : X → Y) (xs : List X) (i : ℕ) (x : X) → i < length xs → x ≡ get_or xs i x → slice_get (map f xs) i ≡ Some (f x)
nth_map_read f xs i x h read =
    slice_get-get_or (map f xs) i (f x) (rw length-map h) ∙ ap (λ y. Some y) (get_or-map f xs i x (f x) h ∙ ap f (sym read))

pub some_back : {Y : Type 0} {a b : Y} → Some a ≡ Some b → a ≡ b
some_back e = cc

pub not_both : {b : Bool} → b ≡ false → b ≡ true → ⊥
not_both p q = let z : ◌≡◌ {A = ℕ} 0 1 = cc in omega arith

-- the lowest place of the meaning at i is i's class
pub class_of_lowest : {M : Type 0} (ms : List M) (i : ℕ) (m : M) (c : ℕ) → slice_get ms i ≡ Some m → slice_get ms c ≡ Some m → Absent ms m c → Class ms i c
class_of_lowest ms i m c at found before =
    record {
      within = ⊎_elim (λ over. absurd (before i over at)) (λ under. under) (cases_lt i c);
      equal = found ∙ sym at;
      lowest = λ k lt e. before k lt (e ∙ at);
    }

-- what a search for the meaning at i answers, or i itself where it finds none, is i's class
pub class_of_answer : {M : Type 0} (ms : List M) (i : ℕ) (m : M) (r : Option ℕ) (c : ℕ) → i < length ms → slice_get ms i ≡ Some m → LowestSame ms m r → c ≡ unwrap_or r i → Class ms i c
class_of_answer ms i m None c lt at low is = absurd (low i lt at)
class_of_answer ms i m (Some k) c lt at low is =
    subst (λ (n : ℕ). Class ms i n) (sym is) (class_of_lowest ms i m k at low.0 low.1)

-- a meaning that no element below n has stands at no place below n
absent : {X M : Type 0} (f : X → M) (m : M) (xs : List X) (n : ℕ) → n ≤ length xs → AllWithin (λ x. f x ≢ m) xs 0 n → Absent (map f xs) m n
absent f m [] n le none = λ k lt e. absurd (omega arith)
absent f m (x ∷ xs) n le none = λ k lt e.
    let inside : k < length (x ∷ xs) = omega arith in none k x (omega arith) lt (some_back (sym (nth_map f (x ∷ xs) k x inside) ∙ e))

-- a search for the first element with a meaning finds the lowest place of the meaning
pub lowest_of_first : {X M : Type 0} (f : X → M) (m : M) (xs : List X) (r : Option ℕ) → MatchOption r (AllWithin (λ x. f x ≢ m) xs 0 (length xs)) (λ i. (i < length xs) × HoldsAt (λ x. f x ≡ m) xs i × AllWithin (λ x. f x ≢ m) xs 0 i) → LowestSame (map f xs) m r
lowest_of_first f m xs None none = rw length-map (absent f m xs (length xs) (omega arith) none)
lowest_of_first f m [] (Some i) found = absurd (omega arith)
lowest_of_first f m (x ∷ xs) (Some i) found =
    (nth_map f (x ∷ xs) i x found.0 ∙ ap (λ y. Some y) (found.1 x), absent f m (x ∷ xs) i (omega arith) found.2)
