-- Lists read by number, and tables in which labels are made anew. Assumes nothing.
use Rattle.std.proofs.Common.{◌≡◌, ℕ, zero, suc, ◌+◌, ◌<◌, Bool, true, false, cond, eqb, ◌⊎◌, List, [], ◌∷◌, ◌++◌, length, set, Some, None, filter, Option, sym, refl, ap, ◌∙◌, inl, inr, arith}
use Rattle.std.specs.List.{slice_get}
use Rattle.std.specs.Option.{option_map}
use Rattle.std.proofs.lemmas.Iterator.Adapters.{option_map_id}
use Rattle.std.proofs.lemmas.Bool.{eqb-true, eqb-false}
use Rattle.walks.specs.Reach.{In}
use Rattle.laws.specs.Every.{Every}
use Rattle.editing.specs.Drafts.{relabel}

pub cond_none : {X : Type 0} (b : Bool) (x : X) (o : Option X) → cond b (Some x) o ≡ None → (b ≡ false) × (o ≡ None)
cond_none true x o e = cc
cond_none false x o e = (refl, e)

pub cond_some : {X : Type 0} (b : Bool) (x y : X) (o : Option X) → cond b (Some x) o ≡ Some y → ((b ≡ true) × (x ≡ y)) ⊎ (o ≡ Some y)
cond_some true x y o e = inl (refl, cc)
cond_some false x y o e = inr e

pub in_either : {X : Type 0} (x : X) (xs ys : List X) → In x (xs ++ ys) → In x xs ⊎ In x ys
in_either x [] ys i = inr i
in_either x (y ∷ xs) ys (inl q) = inl (inl q)
in_either x (y ∷ xs) ys (inr i) = elim (in_either x xs ys i) [ inl k ↦ inl (inr k) | inr k ↦ inr k ]

pub in_left : {X : Type 0} (x : X) (xs ys : List X) → In x xs → In x (xs ++ ys)
in_left x [] ys i = absurd i
in_left x (y ∷ xs) ys (inl q) = inl q
in_left x (y ∷ xs) ys (inr i) = inr (in_left x xs ys i)

pub in_right : {X : Type 0} (x : X) (xs ys : List X) → In x ys → In x (xs ++ ys)
in_right x [] ys i = i
in_right x (y ∷ xs) ys i = inr (in_right x xs ys i)

pub nth_in : {X : Type 0} (xs : List X) (i : ℕ) (x : X) → slice_get xs i ≡ Some x → In x xs
nth_in [] i x h = cc
nth_in (y ∷ ys) zero x h = inl (cc)
nth_in (y ∷ ys) (suc i) x h = inr (nth_in ys i x h)

pub nth_there : {X : Type 0} (xs : List X) (i : ℕ) → i < length xs → (x : X) × (slice_get xs i ≡ Some x)
nth_there [] i h = absurd (omega arith)
nth_there (x ∷ xs) zero h = (x, refl)
nth_there (x ∷ xs) (suc i) h = nth_there xs i (omega arith)

-- those that are kept passed
pub every_kept : {X : Type 0} (P : X → Type 0) (p : X → Bool) (xs : List X) → Every P xs → Every (λ x. P x × (p x ≡ true)) (filter p xs)
every_kept P p [] h = tt
every_kept P p (x ∷ xs) h = on (p x) refl (every_kept P p xs h.1)
  where
    on : (b : Bool) → p x ≡ b → Every (λ y. P y × (p y ≡ true)) (filter p xs) → Every (λ y. P y × (p y ≡ true)) (cond b (x ∷ filter p xs) (filter p xs))
    on true e k = ((h.0, e), k)
    on false e k = k

-- two lists with the same entries
pub same_entries : {X : Type 0} (xs ys : List X) → ((k : ℕ) → slice_get xs k ≡ slice_get ys k) → xs ≡ ys
same_entries [] [] h = refl
same_entries [] (y ∷ ys) h = cc (h 0)
same_entries (x ∷ xs) [] h = cc (h 0)
same_entries (x ∷ xs) (y ∷ ys) h =
    let e : x ≡ y = let z : ◌≡◌ {A = Option _} (Some x) (Some y) = h 0 in cc in
    ap (λ z. z ∷ xs) e ∙ ap (λ z. y ∷ z) (same_entries xs ys (λ k. h (suc k)))

pub relabel_at : {X : Type 0} (f : ℕ → X → X) (i k : ℕ) (xs : List X) → slice_get (relabel f i xs) k ≡ option_map (f (i + k)) (slice_get xs k)
relabel_at f i k [] = refl
relabel_at f i zero (x ∷ xs) = let e : i ≡ i + 0 = omega arith in ap (λ (n : ℕ). Some (f n x)) e
relabel_at f i (suc k) (x ∷ xs) = let e : suc i + k ≡ i + suc k = omega arith in relabel_at f (suc i) k xs ∙ ap (λ (n : ℕ). option_map (f n) (slice_get xs k)) e

pub relabelled : {X : Type 0} (f : ℕ → X → X) (k : ℕ) (xs : List X) → slice_get (relabel f 0 xs) k ≡ option_map (f k) (slice_get xs k)
relabelled f k xs = let e : 0 + k ≡ k = omega arith in relabel_at f 0 k xs ∙ ap (λ (n : ℕ). option_map (f n) (slice_get xs k)) e

pub relabel_length : {X : Type 0} (f : ℕ → X → X) (i : ℕ) (xs : List X) → length (relabel f i xs) ≡ length xs
relabel_length f i [] = refl
relabel_length f i (x ∷ xs) = ap suc (relabel_length f (suc i) xs)

pub relabel_same : {X : Type 0} (i : ℕ) (xs : List X) → relabel (λ k x. x) i xs ≡ xs
relabel_same i [] = refl
relabel_same i (x ∷ xs) = ap (λ ys. x ∷ ys) (relabel_same (suc i) xs)

set_same : {X : Type 0} (xs : List X) (k : ℕ) (v : X) → slice_get (set xs k v) k ≡ option_map (λ y. v) (slice_get xs k)
set_same [] k v = refl
set_same (x ∷ xs) zero v = refl
set_same (x ∷ xs) (suc k) v = set_same xs k v

set_other : {X : Type 0} (xs : List X) (a k : ℕ) (v : X) → (k ≡ a → ⊥) → slice_get (set xs a v) k ≡ slice_get xs k
set_other [] a k v h = refl
set_other (x ∷ xs) zero zero v h = absurd (h refl)
set_other (x ∷ xs) zero (suc k) v h = refl
set_other (x ∷ xs) (suc a) zero v h = refl
set_other (x ∷ xs) (suc a) (suc k) v h = set_other xs a k v (λ e. h (ap suc e))

pub set_at : {X : Type 0} (xs : List X) (a k : ℕ) (v : X) → slice_get (set xs a v) k ≡ option_map (λ y. cond (eqb k a) v y) (slice_get xs k)
set_at xs a k v = on (eqb k a) refl
  where
    on : (b : Bool) → eqb k a ≡ b → slice_get (set xs a v) k ≡ option_map (λ y. cond (eqb k a) v y) (slice_get xs k)
    on true e =
        ap (λ (z : ℕ). slice_get (set xs z v) k) (sym (eqb-true k a e)) ∙ set_same xs k v ∙ ap (λ (b : Bool). option_map (λ y. cond b v y) (slice_get xs k)) (sym e)
    on false e =
        set_other xs a k v (eqb-false k a e) ∙ sym (option_map_id (slice_get xs k)) ∙ ap (λ (b : Bool). option_map (λ y. cond b v y) (slice_get xs k)) (sym e)
