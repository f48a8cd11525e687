-- What is an element of a list that is made of others: mapped, joined, kept, counted up, numbered. Assumes nothing.
use Rattle.std.proofs.Common.{◌≡◌, ℕ, zero, suc, ◌+◌, ◌<◌, ◌≤◌, Bool, true, false, cond, ◌⊎◌, List, [], ◌∷◌, ◌++◌, map, length, get_or, filter, sym, refl, ap, ◌∙◌, subst, inl, inr, ⊎_elim, le_of_suc-le-suc, not-suc-le-zero, arith}
use Rattle.std.specs.List.{flat_map}
use Rattle.std.proofs.lemmas.Bool.{cases_eq}
use Rattle.walks.specs.Reach.{In, from}

pub in_left : {X : Type 0} (x : X) (xs ys : List X) → In x xs → In x (xs ++ ys)
in_left x [] ys i = absurd i
in_left x (y ∷ xs) ys (inl q) = inl q
in_left x (y ∷ xs) ys (inr i) = inr (in_left x xs ys i)

pub in_right : {X : Type 0} (x : X) (xs ys : List X) → In x ys → In x (xs ++ ys)
in_right x [] ys i = i
in_right x (y ∷ xs) ys i = inr (in_right x xs ys i)

pub in_either : {X : Type 0} (x : X) (xs ys : List X) → In x (xs ++ ys) → In x xs ⊎ In x ys
in_either x [] ys i = inr i
in_either x (y ∷ xs) ys (inl q) = inl (inl q)
in_either x (y ∷ xs) ys (inr i) = ⊎_elim (λ k. inl (inr k)) (λ k. inr k) (in_either x xs ys i)

pub in_map : {X Y : Type 0} (f : X → Y) (x : X) (xs : List X) → In x xs → In (f x) (map f xs)
in_map f x [] i = absurd i
in_map f x (y ∷ xs) (inl q) = inl (ap f q)
in_map f x (y ∷ xs) (inr i) = inr (in_map f x xs i)

pub of_map : {X Y : Type 0} (f : X → Y) (y : Y) (xs : List X) → In y (map f xs) → (x : X) × In x xs × (y ≡ f x)
of_map f y [] i = absurd i
of_map f y (x ∷ xs) (inl q) = (x, inl refl, q)
of_map f y (x ∷ xs) (inr i) = let r = of_map f y xs i in (r.0, inr r.1, r.2)

pub in_joined : {X Y : Type 0} (f : X → List Y) (x : X) (y : Y) (xs : List X) → In x xs → In y (f x) → In y (flat_map f xs)
in_joined f x y [] i j = absurd i
in_joined f x y (z ∷ xs) (inl q) j = in_left y (f z) (flat_map f xs) (subst (λ (v : _). In y (f v)) q j)
in_joined f x y (z ∷ xs) (inr i) j = in_right y (f z) (flat_map f xs) (in_joined f x y xs i j)

pub of_joined : {X Y : Type 0} (f : X → List Y) (y : Y) (xs : List X) → In y (flat_map f xs) → (x : X) × In x xs × In y (f x)
of_joined f y [] i = absurd i
of_joined f y (z ∷ xs) i =
    ⊎_elim (λ j. (z, inl refl, j)) (λ j. let r = of_joined f y xs j in (r.0, inr r.1, r.2)) (in_either y (f z) (flat_map f xs) i)

pub in_kept : {X : Type 0} (p : X → Bool) (x : X) (xs : List X) → In x xs → p x ≡ true → In x (filter p xs)
in_kept p x [] i h = absurd i
in_kept p x (y ∷ xs) (inl q) h =
    subst (λ (b : Bool). In x (cond b (y ∷ filter p xs) (filter p xs))) (sym (ap p (sym q) ∙ h)) (inl q)
in_kept p x (y ∷ xs) (inr i) h =
    let k : In x (filter p xs) = in_kept p x xs i h in
    elim (p y) as (λ b. In x (cond b (y ∷ filter p xs) (filter p xs))) [ true ↦ inr k | false ↦ k ]

pub of_kept : {X : Type 0} (p : X → Bool) (x : X) (xs : List X) → In x (filter p xs) → In x xs × (p x ≡ true)
of_kept p x [] i = absurd i
of_kept p x (y ∷ xs) i = on (of_kept p x xs) (p y) refl i
  where
    on : (In x (filter p xs) → In x xs × (p x ≡ true)) → (b : Bool) → p y ≡ b → In x (cond b (y ∷ filter p xs) (filter p xs)) → In x (y ∷ xs) × (p x ≡ true)
    on ih false e j = (inr (ih j).0, (ih j).1)
    on ih true e (inl q) = (inl q, ap p q ∙ e)
    on ih true e (inr j) = (inr (ih j).0, (ih j).1)

pub in_from : (i n v : ℕ) → i ≤ v → v < i + n → In v (from i n)
in_from i zero v a b = absurd (omega arith)
in_from i (suc n) v a b = ⊎_elim (λ e. inl e) (λ e. inr (in_from (suc i) n v (omega arith) (omega arith))) (cases_eq v i)

pub of_from : (i n v : ℕ) → In v (from i n) → (i ≤ v) × (v < i + n)
of_from i zero v j = absurd j
of_from i (suc n) v (inl e) = (omega arith, omega arith)
of_from i (suc n) v (inr j) = let r = of_from (suc i) n v j in (omega (arith, r.0), omega (arith, r.1))

-- the numbers of the elements that pass a test, counted from i on
abbrev pub numbers : {X : Type 0} → (X → Bool) → ℕ → List X → List ℕ
numbers p i [] = []
numbers p i (x ∷ xs) = cond (p x) (i ∷ numbers p (suc i) xs) (numbers p (suc i) xs)

pub of_numbers : {X : Type 0} (p : X → Bool) (d : X) (i k : ℕ) (xs : List X) → In k (numbers p i xs) → (j : ℕ) × (k ≡ i + j) × (j < length xs) × (p (get_or xs j d) ≡ true)
of_numbers p d i k [] h = absurd h
of_numbers p d i k (x ∷ xs) h = on (of_numbers p d (suc i) k xs) (p x) refl h
  where
    on : (In k (numbers p (suc i) xs) → (j : ℕ) × (k ≡ suc i + j) × (j < length xs) × (p (get_or xs j d) ≡ true)) → (b : Bool) → p x ≡ b →
        In k (cond b (i ∷ numbers p (suc i) xs) (numbers p (suc i) xs)) → (j : ℕ) × (k ≡ i + j) × (j < length (x ∷ xs)) × (p (get_or (x ∷ xs) j d) ≡ true)
    on ih false e m = let r = ih m in (suc r.0, omega (arith, r.1), omega (arith, r.2), r.3)
    on ih true e (inl q) = (0, omega arith, omega arith, e)
    on ih true e (inr m) = let r = ih m in (suc r.0, omega (arith, r.1), omega (arith, r.2), r.3)

pub in_numbers : {X : Type 0} (p : X → Bool) (d : X) (i j : ℕ) (xs : List X) → j < length xs → p (get_or xs j d) ≡ true → In (i + j) (numbers p i xs)
in_numbers p d i j [] l h = absurd (not-suc-le-zero l)
in_numbers p d i zero (x ∷ xs) l h =
    subst (λ (b : Bool). In (i + 0) (cond b (i ∷ numbers p (suc i) xs) (numbers p (suc i) xs))) (sym h) (inl (omega arith))
in_numbers p d i (suc j) (x ∷ xs) l h =
    let z : suc i + j ≡ i + suc j = omega arith in
    let k : In (i + suc j) (numbers p (suc i) xs) = subst (λ (n : ℕ). In n (numbers p (suc i) xs)) z (in_numbers p d (suc i) j xs (le_of_suc-le-suc l) h) in
    elim (p x) as (λ b. In (i + suc j) (cond b (i ∷ numbers p (suc i) xs) (numbers p (suc i) xs))) [ true ↦ inr k | false ↦ k ]

pub in_at : {X : Type 0} (xs : List X) (k : ℕ) (d : X) → k < length xs → In (get_or xs k d) xs
in_at [] k d l = absurd (not-suc-le-zero l)
in_at (x ∷ xs) zero d l = inl refl
in_at (x ∷ xs) (suc k) d l = inr (in_at xs k d (le_of_suc-le-suc l))

pub place_of : {X : Type 0} (x : X) (xs : List X) (d : X) → In x xs → (k : ℕ) × (k < length xs) × (get_or xs k d ≡ x)
place_of x [] d i = absurd i
place_of x (y ∷ xs) d (inl q) = (0, omega arith, sym q)
place_of x (y ∷ xs) d (inr i) = let r = place_of x xs d i in (suc r.0, omega (arith, r.1), r.2)
