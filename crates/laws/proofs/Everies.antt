-- What holds of every element: joined, parted, weakened and read. Assumes nothing.
use Rattle.std.proofs.Common.{◌≡◌, ℕ, zero, suc, ◌+◌, ◌≤◌, List, [], ◌∷◌, ◌++◌, map, length, get_or, set, replicate, sym, refl, subst, inl, inr, arith}
use Rattle.std.specs.List.{flat_map}
use Rattle.walks.specs.Reach.{In}
use Rattle.laws.specs.Every.{Every, EveryFrom}

module _ {X : Type 0} where
  pub every_join : (P : X → Type 0) (xs ys : List X) → Every P xs → Every P ys → Every P (xs ++ ys)
  every_join P [] ys p q = q
  every_join P (x ∷ xs) ys p q = (p.0, every_join P xs ys p.1 q)

  pub every_left : (P : X → Type 0) (xs ys : List X) → Every P (xs ++ ys) → Every P xs
  every_left P [] ys p = tt
  every_left P (x ∷ xs) ys p = (p.0, every_left P xs ys p.1)

  pub every_right : (P : X → Type 0) (xs ys : List X) → Every P (xs ++ ys) → Every P ys
  every_right P [] ys p = p
  every_right P (x ∷ xs) ys p = every_right P xs ys p.1

  pub every_to : (P Q : X → Type 0) → ((x : X) → P x → Q x) → (xs : List X) → Every P xs → Every Q xs
  every_to P Q f [] h = tt
  every_to P Q f (x ∷ xs) h = (f x h.0, every_to P Q f xs h.1)

  pub every_get : (P : X → Type 0) (xs : List X) (d : X) (i : ℕ) → Every P xs → P d → P (get_or xs i d)
  every_get P [] d i h q = q
  every_get P (x ∷ xs) d zero h q = h.0
  every_get P (x ∷ xs) d (suc i) h q = every_get P xs d i h.1 q

  pub every_in : (P : X → Type 0) (xs : List X) (x : X) → Every P xs → In x xs → P x
  every_in P [] x h i = absurd i
  every_in P (y ∷ xs) x h (inl e) = subst P (sym e) h.0
  every_in P (y ∷ xs) x h (inr i) = every_in P xs x h.1 i

  pub every_set : (P : X → Type 0) (xs : List X) (i : ℕ) (y : X) → Every P xs → P y → Every P (set xs i y)
  every_set P [] i y h q = tt
  every_set P (x ∷ xs) zero y h q = (q, h.1)
  every_set P (x ∷ xs) (suc i) y h q = (h.0, every_set P xs i y h.1 q)

  pub every_replicate : (P : X → Type 0) (n : ℕ) (x : X) → P x → Every P (replicate n x)
  every_replicate P zero x q = tt
  every_replicate P (suc n) x q = (q, every_replicate P n x q)

  pub every_joined : {Y : Type 0} (P : X → Type 0) (g : Y → List X) (ys : List Y) → ((y : Y) → In y ys → Every P (g y)) → Every P (flat_map g ys)
  every_joined P g [] h = tt
  every_joined P g (y ∷ ys) h = every_join P (g y) (flat_map g ys) (h y (inl refl)) (every_joined P g ys (λ z i. h z (inr i)))

  pub every_map : {Y : Type 0} (P : X → Type 0) (g : Y → X) (ys : List Y) → ((y : Y) → In y ys → P (g y)) → Every P (map g ys)
  every_map P g [] h = tt
  every_map P g (y ∷ ys) h = (h y (inl refl), every_map P g ys (λ z i. h z (inr i)))

  pub from_join : (P : ℕ → X → Type 0) (i : ℕ) (xs ys : List X) → EveryFrom P i xs → EveryFrom P (i + length xs) ys → EveryFrom P i (xs ++ ys)
  from_join P i [] ys p q = subst (λ k. EveryFrom P k ys) (let e : i + 0 ≡ i = omega arith in e) q
  from_join P i (x ∷ xs) ys p q = (p.0, from_join P (suc i) xs ys p.1 (subst (λ k. EveryFrom P k ys) (let e : i + suc (length xs) ≡ suc i + length xs = omega arith in e) q))

  pub from_to : (P Q : ℕ → X → Type 0) → ((i : ℕ) (x : X) → P i x → Q i x) → (i : ℕ) (xs : List X) → EveryFrom P i xs → EveryFrom Q i xs
  from_to P Q f i [] h = tt
  from_to P Q f i (x ∷ xs) h = (f i x h.0, from_to P Q f (suc i) xs h.1)

  -- what holds of an element at every number from j on
  pub from_every : (P : X → Type 0) (Q : ℕ → X → Type 0) (j : ℕ) → ((i : ℕ) (x : X) → j ≤ i → P x → Q i x) → (i : ℕ) → j ≤ i → (xs : List X) → Every P xs → EveryFrom Q i xs
  from_every P Q j f i l [] h = tt
  from_every P Q j f i l (x ∷ xs) h = (f i x l h.0, from_every P Q j f (suc i) (omega arith) xs h.1)

  pub from_all : (P : ℕ → X → Type 0) → ((i : ℕ) (x : X) → P i x) → (i : ℕ) (xs : List X) → EveryFrom P i xs
  from_all P h i [] = tt
  from_all P h i (x ∷ xs) = (h i x, from_all P h (suc i) xs)
