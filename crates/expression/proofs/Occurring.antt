-- A table in which each place but the last is a part once: each of its places stands once in the
-- last one's tree. Assumes nothing.
use Rattle.std.proofs.Common.{◌≡◌, ℕ, zero, suc, ◌+◌, ◌-◌, ◌<◌, ◌≤◌, Bool, true, cond, ◌⊎◌, List, [], ◌∷◌, length, get_or, sym, refl, ap, ◌∙◌, inl, inr, ⊎_elim, not-suc-le-zero, arith}
use Rattle.std.proofs.lemmas.Bool.{eqb-true, eq-eqb, ne_eqb, cases_lt, cases_eq}
use Rattle.expression.specs.declared.form.Form.{Form}
use Rattle.expression.specs.declared.form.Form.TheVariants.{Zero, Node, Edge, Union, Mark, Out, Disjoint, Append, Graph, If, Recursion}
use Rattle.expression.specs.Forms.{Tree, lower, Lower, grown, tree_at, parts_of}
use Rattle.expression.specs.Parts.{here, times, Below, uses, place_of, occurrences}
use Rattle.expression.specs.Admission.{part_once}
use Rattle.expression.proofs.Trees.{lower_tells, unrolls}

pub parts_below : (r : ℕ) (q : Form) → Lower r q → Below r (parts_of q)
parts_below r Zero h = tt
parts_below r Node h = tt
parts_below r (Edge t e) h = (h, tt)
parts_below r (Union e f) h = (h.0, (h.1, tt))
parts_below r (Mark m e) h = (h, tt)
parts_below r (Out m) h = tt
parts_below r (Disjoint e f) h = (h.0, (h.1, tt))
parts_below r (Append e f) h = (h.0, (h.1, tt))
parts_below r (Graph j) h = tt
parts_below r (If s t e f) h = (h.0, (h.1, tt))
parts_below r (Recursion b a) h = (h.0, (h.1, tt))

abbrev pub total : (ℕ → ℕ) → List ℕ → ℕ
total f [] = 0
total f (x ∷ xs) = f x + total f xs

pub here_same : (p q : ℕ) → p ≡ q → here p q ≡ 1
here_same p q h = ap (λ (b : Bool). cond b 1 0) (eq-eqb p q h)

pub here_other : (p q : ℕ) → (p ≡ q → ⊥) → here p q ≡ 0
here_other p q h = ap (λ (b : Bool). cond b 1 0) (ne_eqb p q h)

-- a number that counts p, and what it then is
pub here_cases : (p q : ℕ) → ((p ≡ q) × (here p q ≡ 1)) ⊎ ((p ≡ q → ⊥) × (here p q ≡ 0))
here_cases p q = ⊎_elim (λ e. inl (e, here_same p q e)) (λ n. inr (n, here_other p q n)) (cases_eq p q)

pub times_above : (p r : ℕ) (xs : List ℕ) → Below r xs → r ≤ p → times p xs ≡ 0
times_above p r [] b h = refl
times_above p r (x ∷ xs) b h =
    let e = here_other p x (omega arith) in
    let f = times_above p r xs b.1 h in
    omega arith

total_split : (f g : ℕ → ℕ) (p r : ℕ) (xs : List ℕ) → Below r xs → ((e : ℕ) → e < r → f e ≡ here p e + g e) → total f xs ≡ times p xs + total g xs
total_split f g p r [] b h = refl
total_split f g p r (x ∷ xs) b h =
    let e = h x b.0 in
    let i = total_split f g p r xs b.1 h in
    omega arith

total_none : (f : ℕ → ℕ) (r : ℕ) (xs : List ℕ) → Below r xs → ((e : ℕ) → e < r → f e ≡ 0) → total f xs ≡ 0
total_none f r [] b h = refl
total_none f r (x ∷ xs) b h =
    let e = h x b.0 in
    let i = total_none f r xs b.1 h in
    omega arith

occurs_grown : (q : Form) (r p : ℕ) (f : ℕ → Tree) → occurrences p (grown q r f) ≡ here p r + total (λ e. occurrences p (f e)) (parts_of q)
unfolding occurrences
occurs_grown Zero r p f = omega arith
occurs_grown Node r p f = omega arith
occurs_grown (Edge t e) r p f = omega arith
occurs_grown (Union e g) r p f = omega arith
occurs_grown (Mark m e) r p f = omega arith
occurs_grown (Out m) r p f = omega arith
occurs_grown (Disjoint e g) r p f = omega arith
occurs_grown (Append e g) r p f = omega arith
occurs_grown (Graph j) r p f = omega arith
occurs_grown (If s t e g) r p f = omega arith
occurs_grown (Recursion b a) r p f = omega arith

place_grown : (q : Form) (r : ℕ) (f : ℕ → Tree) → place_of (grown q r f) ≡ r
place_grown Zero r f = refl
place_grown Node r f = refl
place_grown (Edge t e) r f = refl
place_grown (Union e g) r f = refl
place_grown (Mark m e) r f = refl
place_grown (Out m) r f = refl
place_grown (Disjoint e g) r f = refl
place_grown (Append e g) r f = refl
place_grown (Graph j) r f = refl
place_grown (If s t e g) r f = refl
place_grown (Recursion b a) r f = refl

-- the place u is the one of the first n places that has p as a part
abbrev pub User : List Form → ℕ → ℕ → ℕ → Type 0
User ps n p u = (x : ℕ) → x < n → times p (parts_of (get_or ps x Zero)) ≡ here u x

unused : (ps : List Form) (n p : ℕ) → uses ps n p ≡ 0 → (x : ℕ) → x < n → times p (parts_of (get_or ps x Zero)) ≡ 0
unfolding uses
unused ps zero p h x l = absurd (not-suc-le-zero l)
unused ps (suc n) p h x l =
    ⊎_elim
    (λ (e : x ≡ n). ap (λ (y : ℕ). times p (parts_of (get_or ps y Zero))) e ∙ omega arith)
    (λ (d : x ≡ n → ⊥). unused ps n p (omega arith) x (omega arith))
    (cases_eq x n)

one_user : (ps : List Form) (n p : ℕ) → uses ps n p ≡ 1 → (u : ℕ) × (u < n) × User ps n p u
unfolding uses
one_user ps zero p h = let z : ⊥ = omega arith in absurd z
one_user ps (suc n) p h =
    ⊎_elim
    (λ (l : uses ps n p < 1).
    let none : uses ps n p ≡ 0 = omega arith in (
      n,
      omega arith,
      λ x k.
          ⊎_elim
          (λ (e : x ≡ n). ap (λ (y : ℕ). times p (parts_of (get_or ps y Zero))) e ∙ (omega (arith, here_same n x (sym e))))
          (λ (d : x ≡ n → ⊥). unused ps n p none x (omega arith) ∙ sym (here_other n x (λ e. d (sym e))))
          (cases_eq x n),
    ))
    (λ (l : 1 ≤ uses ps n p).
    let t = one_user ps n p (omega arith) in (
      t.0,
      omega arith,
      λ x k.
          ⊎_elim
          (λ (e : x ≡ n). ap (λ (y : ℕ). times p (parts_of (get_or ps y Zero))) e ∙ (omega (arith, here_other t.0 x (omega arith))))
          (λ (d : x ≡ n → ⊥). t.2 x (omega arith))
          (cases_eq x n),
    ))
    (cases_lt (uses ps n p) 1)

-- a table whose parts stand lower
module _ (ps : List Form) (low : (k : ℕ) → lower k (get_or ps k Zero) ≡ true) where
  pub below_at : (r : ℕ) → Below r (parts_of (get_or ps r Zero))
  below_at r = parts_below r (get_or ps r Zero) (lower_tells r (get_or ps r Zero) (low r))

  pub place_at : (r : ℕ) → place_of (tree_at ps r) ≡ r
  place_at r = ap place_of (unrolls ps low r) ∙ place_grown (get_or ps r Zero) r (tree_at ps)

  pub occurs_at : (r p : ℕ) → occurrences p (tree_at ps r) ≡ here p r + total (λ e. occurrences p (tree_at ps e)) (parts_of (get_or ps r Zero))
  occurs_at r p = ap (occurrences p) (unrolls ps low r) ∙ occurs_grown (get_or ps r Zero) r p (tree_at ps)

  -- a higher place does not stand in a tree
  none_above : (k r p : ℕ) → r < k → r < p → occurrences p (tree_at ps r) ≡ 0
  none_above zero r p h l = absurd (not-suc-le-zero h)
  none_above (suc k) r p h l =
      let e = occurs_at r p in
      let f = here_other p r (omega arith) in
      let g = total_none (λ e. occurrences p (tree_at ps e)) r (parts_of (get_or ps r Zero)) (below_at r) (λ q m. none_above k q p (omega arith) (omega arith)) in
      omega arith

  pub occurs_above : (r p : ℕ) → r < p → occurrences p (tree_at ps r) ≡ 0
  occurs_above r p l = none_above (suc r) r p (omega arith) l

  -- a place stands in a tree as often as its user does, and once more if it is the tree's own
  by_user : (n p u : ℕ) → User ps n p u → (k r : ℕ) → r < k → r < n → occurrences p (tree_at ps r) ≡ here p r + occurrences u (tree_at ps r)
  by_user n p u w zero r h l = absurd (not-suc-le-zero h)
  by_user n p u w (suc k) r h l =
      let e = occurs_at r p in
      let f = occurs_at r u in
      let g = total_split (λ e. occurrences p (tree_at ps e)) (λ e. occurrences u (tree_at ps e)) p r (parts_of (get_or ps r Zero)) (below_at r) (λ q m. by_user n p u w k q (omega arith) (omega arith)) in
      let i = w r l in
      omega arith

  pub occurs_by_user : (n p u : ℕ) → User ps n p u → (r : ℕ) → r < n → occurrences p (tree_at ps r) ≡ here p r + occurrences u (tree_at ps r)
  occurs_by_user n p u w r l = by_user n p u w (suc r) r (omega arith) l

  -- a user stands higher
  pub user_above : (n p u : ℕ) → u < n → User ps n p u → p < u
  user_above n p u h w =
      ⊎_elim
      (λ (l : p < u). l)
      (λ (l : u ≤ p).
      let e = times_above p u (parts_of (get_or ps u Zero)) (below_at u) l in
      let f = w u h in
      let g = here_same u u refl in
      omega arith)
      (cases_lt p u)

  module _ (once : (p : ℕ) → p < length ps → part_once ps p ≡ true) where
    pub user_of : (p : ℕ) → suc p < length ps → (u : ℕ) × (u < length ps) × User ps (length ps) p u
    user_of p h =
        one_user ps (length ps) p
        (eqb-true _ _ (once p (omega arith)) ∙ ap (λ (b : Bool). cond b 0 1) (ne_eqb (suc p) (length ps) (omega arith)))

    once_from : (k p : ℕ) → p < length ps → length ps < p + k → occurrences p (tree_at ps (length ps - 1)) ≡ 1
    once_from zero p h l = let z : ⊥ = omega arith in absurd z
    once_from (suc k) p h l =
        ⊎_elim
        (λ (i : suc p < length ps).
        let t = user_of p i in
        let a = user_above (length ps) p t.0 t.1 t.2 in
        let e = occurs_by_user (length ps) p t.0 t.2 (length ps - 1) (omega arith) in
        let f = once_from k t.0 t.1 (omega arith) in
        let g = here_other p (length ps - 1) (omega arith) in
        omega arith)
        (λ (i : length ps ≤ suc p).
        let q : p ≡ length ps - 1 = omega arith in
        let e = occurs_at (length ps - 1) p in
        let f = total_none (λ e. occurrences p (tree_at ps e)) (length ps - 1) (parts_of (get_or ps (length ps - 1) Zero)) (below_at (length ps - 1)) (λ x m. occurs_above x p (omega arith)) in
        let g = here_same p (length ps - 1) q in
        omega arith)
        (cases_lt (suc p) (length ps))

    -- each place stands once in the tree of the last
    pub occurs_once : (p : ℕ) → p < length ps → occurrences p (tree_at ps (length ps - 1)) ≡ 1
    occurs_once p h = once_from (suc (length ps)) p h (omega arith)
