-- The level of a part is its user's, and one more for the body of a recursion. Assumes nothing.
use Rattle.std.proofs.Common.{◌≡◌, ℕ, zero, suc, ◌+◌, ◌-◌, ◌<◌, ◌≤◌, true, cond, eqb, ltb, List, length, get_or, sym, refl, ap, ◌∙◌, subst, ⊎_elim, not-suc-le-zero, arith}
use Rattle.std.proofs.lemmas.Bool.{eq-eqb, ne_eqb, lt-ltb, le-ltb, cases_lt, cases_eq, cond-true, cond-false}
use Rattle.expression.specs.declared.form.Form.{Form}
use Rattle.expression.specs.declared.form.Form.TheVariants.{Zero, Node, Edge, Union, Mark, Out, Disjoint, Append, Graph, If, Recursion}
use Rattle.expression.specs.Forms.{Tree, t_zero, t_node, t_edge, t_union, t_mark, t_out, t_disjoint, t_append, t_graph, t_if, t_recursion, lower, Lower, grown, tree_at, parts_of}
use Rattle.expression.specs.Parts.{here, times, place_of, occurrences, raised, level_in}
use Rattle.expression.specs.Admission.{part_once, level_at}
use Rattle.expression.proofs.Trees.{lower_tells, unrolls}
use Rattle.expression.proofs.Occurring.{User, total, here_same, here_other, place_at, occurs_at, occurs_above, occurs_by_user, user_of, occurs_once, times_above, below_at}

-- the level of p in the tree of a place r at the level l, whose one part is x, or whose two parts
-- are x, where p stands o times, and y
abbrev pub one_part : ℕ → ℕ → ℕ → ℕ → ℕ
one_part p r l x = cond (eqb p r) l x

abbrev pub two_parts : ℕ → ℕ → ℕ → ℕ → ℕ → ℕ → ℕ
two_parts p r l o x y = cond (eqb p r) l (cond (ltb 0 o) x y)

one_here : (p r l x : ℕ) → p ≡ r → one_part p r l x ≡ l
one_here p r l x h = cond-true (eqb p r) l x (eq-eqb p r h)

one_there : (p r l x : ℕ) → (p ≡ r → ⊥) → one_part p r l x ≡ x
one_there p r l x h = cond-false (eqb p r) l x (ne_eqb p r h)

two_here : (p r l o x y : ℕ) → p ≡ r → two_parts p r l o x y ≡ l
two_here p r l o x y h = cond-true (eqb p r) l (cond (ltb 0 o) x y) (eq-eqb p r h)

two_first : (p r l o x y : ℕ) → (p ≡ r → ⊥) → 0 < o → two_parts p r l o x y ≡ x
two_first p r l o x y h k = cond-false (eqb p r) l (cond (ltb 0 o) x y) (ne_eqb p r h) ∙ cond-true (ltb 0 o) x y (lt-ltb 0 o k)

two_second : (p r l o x y : ℕ) → (p ≡ r → ⊥) → o ≡ 0 → two_parts p r l o x y ≡ y
two_second p r l o x y h k = cond-false (eqb p r) l (cond (ltb 0 o) x y) (ne_eqb p r h) ∙ cond-false (ltb 0 o) x y (le-ltb 0 o (omega arith))

root_level : (p l : ℕ) (t : Tree) → place_of t ≡ p → level_in p l t ≡ l
unfolding level_in
root_level p l (t_zero q) h = refl
root_level p l (t_node q) h = refl
root_level p l (t_edge q t e) h = one_here p q l _ (sym h)
root_level p l (t_union q e f) h = one_here p q l _ (sym h)
root_level p l (t_mark q m e) h = one_here p q l _ (sym h)
root_level p l (t_out q m) h = refl
root_level p l (t_disjoint q e f) h = one_here p q l _ (sym h)
root_level p l (t_append q e f) h = one_here p q l _ (sym h)
root_level p l (t_graph q j) h = refl
root_level p l (t_if q s t e f) h = one_here p q l _ (sym h)
root_level p l (t_recursion q b a) h = one_here p q l _ (sym h)

-- p is a part of u, once; L q l and O q are the level of q in the tree of x and how often it stands
-- there, for the parts x of the place r
leaf_step : (p u r l : ℕ) (R : ℕ → ℕ) → 0 ≡ here u r → 0 < here u r + 0 → l ≡ R l
leaf_step p u r l R h k = let z : ⊥ = omega arith in absurd z

one_step : (p u r l e x v o : ℕ) (R : ℕ → ℕ) → (p ≡ r → ⊥) → here p e + 0 ≡ here u r → 0 < here u r + (o + 0)
    → (u ≡ r → R l ≡ l) → (p ≡ e → x ≡ l) → ((p ≡ e → ⊥) → 0 < o → x ≡ R v)
    → one_part p r l x ≡ R (one_part u r l v)
one_step p u r l e x v o R ne w pos own at deep =
    one_there p r l x ne
    ∙ ⊎_elim
    (λ (i : u ≡ r).
    let a = here_same u r i in
    let b : p ≡ e = ⊎_elim (λ (q : p ≡ e). q) (λ (q : p ≡ e → ⊥). let z = here_other p e q in omega arith) (cases_eq p e) in
    at b ∙ sym (own i) ∙ ap R (sym (one_here u r l v i)))
    (λ (i : u ≡ r → ⊥).
    let a = here_other u r i in
    let b : p ≡ e → ⊥ = λ q. let z = here_same p e q in omega arith in
    deep b (omega arith) ∙ ap R (sym (one_there u r l v i)))
    (cases_eq u r)

two_step : (p u r l k e f x y v w o n i : ℕ) (R : ℕ → ℕ) → (p ≡ r → ⊥) → here p e + (here p f + 0) ≡ here u r → 0 < here u r + (o + (n + 0))
    → (u ≡ r → p ≡ e → R l ≡ k) → (u ≡ r → (p ≡ e → ⊥) → R l ≡ l)
    → i ≡ here p e + o → (u ≡ r → o ≡ 0)
    → (p ≡ e → x ≡ k) → ((p ≡ e → ⊥) → 0 < o → x ≡ R v)
    → (p ≡ f → y ≡ l) → ((p ≡ f → ⊥) → 0 < n → y ≡ R w)
    → two_parts p r l i x y ≡ R (two_parts u r l o v w)
two_step p u r l k e f x y v w o n i R ne c pos own other count alone at-e deep-e at_f deep-f =
    ⊎_elim
    (λ (s : u ≡ r).
    let a = here_same u r s in
    let z = alone s in
    ⊎_elim
    (λ (q : p ≡ e).
    let b = here_same p e q in
    two_first p r l i x y ne (omega arith) ∙ at-e q ∙ sym (own s q) ∙ ap R (sym (two_here u r l o v w s)))
    (λ (q : p ≡ e → ⊥).
    let b = here_other p e q in
    let d : p ≡ f = ⊎_elim (λ (m : p ≡ f). m) (λ (m : p ≡ f → ⊥). let t = here_other p f m in omega arith) (cases_eq p f) in
    two_second p r l i x y ne (omega arith) ∙ at_f d ∙ sym (other s q) ∙ ap R (sym (two_here u r l o v w s)))
    (cases_eq p e))
    (λ (s : u ≡ r → ⊥).
    let a = here_other u r s in
    let b : p ≡ e → ⊥ = λ q. let t = here_same p e q in omega arith in
    let d : p ≡ f → ⊥ = λ q. let t = here_same p f q in omega arith in
    let g = here_other p e b in
    ⊎_elim
    (λ (m : 0 < o). two_first p r l i x y ne (omega arith) ∙ deep-e b m ∙ ap R (sym (two_first u r l o v w s m)))
    (λ (m : o ≤ 0). two_second p r l i x y ne (omega arith) ∙ deep-f d (omega arith) ∙ ap R (sym (two_second u r l o v w s (omega arith))))
    (cases_lt 0 o))
    (cases_eq u r)

-- one level down from the tree of the place r, whose form is q and whose parts' trees are T
module _ (p u r : ℕ) (T : ℕ → Tree) (R : ℕ → ℕ)
    (ne : p ≡ r → ⊥)
    (count : (e : ℕ) → e < r → occurrences p (T e) ≡ here p e + occurrences u (T e))
    (alone : (e : ℕ) → e < r → u ≡ r → occurrences u (T e) ≡ 0)
    (at : (e k : ℕ) → e < r → p ≡ e → level_in p k (T e) ≡ k)
    (deep : (e k : ℕ) → e < r → (p ≡ e → ⊥) → 0 < occurrences u (T e) → level_in p k (T e) ≡ R (level_in u k (T e))) where
  even_step : (l e f : ℕ) → (e < r) × (f < r) → here p e + (here p f + 0) ≡ here u r → 0 < here u r + (occurrences u (T e) + (occurrences u (T f) + 0)) → (u ≡ r → R l ≡ l)
      → two_parts p r l (occurrences p (T e)) (level_in p l (T e)) (level_in p l (T f)) ≡ R (two_parts u r l (occurrences u (T e)) (level_in u l (T e)) (level_in u l (T f)))
  even_step l e f low w pos own =
      two_step p u r l l e f (level_in p l (T e)) (level_in p l (T f)) (level_in u l (T e)) (level_in u l (T f)) (occurrences u (T e)) (occurrences u (T f)) (occurrences p (T e)) R
      ne w pos (λ s x. own s) (λ s x. own s) (count e low.0) (alone e low.0) (at e l low.0) (deep e l low.0) (at f l low.1) (deep f l low.1)

  level_step : (q : Form) (l : ℕ) → Lower r q → times p (parts_of q) ≡ here u r → 0 < here u r + total (λ e. occurrences u (T e)) (parts_of q) → (u ≡ r → R l ≡ raised q p l)
      → level_in p l (grown q r T) ≡ R (level_in u l (grown q r T))
  unfolding level_in
  level_step Zero l low w pos own = leaf_step p u r l R w pos
  level_step Node l low w pos own = leaf_step p u r l R w pos
  level_step (Edge t e) l low w pos own =
      one_step p u r l e (level_in p l (T e)) (level_in u l (T e)) (occurrences u (T e)) R ne w pos own (at e l low) (deep e l low)
  level_step (Union e f) l low w pos own = even_step l e f low w pos own
  level_step (Mark m e) l low w pos own =
      one_step p u r l e (level_in p l (T e)) (level_in u l (T e)) (occurrences u (T e)) R ne w pos own (at e l low) (deep e l low)
  level_step (Out m) l low w pos own = leaf_step p u r l R w pos
  level_step (Disjoint e f) l low w pos own = even_step l e f low w pos own
  level_step (Append e f) l low w pos own = even_step l e f low w pos own
  level_step (Graph j) l low w pos own = leaf_step p u r l R w pos
  level_step (If s t e f) l low w pos own = even_step l e f low w pos own
  level_step (Recursion b a) l low w pos own =
      two_step p u r l (suc l) b a (level_in p (suc l) (T b)) (level_in p l (T a)) (level_in u (suc l) (T b)) (level_in u l (T a)) (occurrences u (T b)) (occurrences u (T a)) (occurrences p (T b)) R
      ne w pos
      (λ s x. own s ∙ cond-true (eqb p b) (suc l) l (eq-eqb p b x))
      (λ s x. own s ∙ cond-false (eqb p b) (suc l) l (ne_eqb p b x))
      (count b low.0) (alone b low.0) (at b (suc l) low.0) (deep b (suc l) low.0) (at a l low.1) (deep a l low.1)

module _ (ps : List Form) (low : (k : ℕ) → lower k (get_or ps k Zero) ≡ true) where
  pub own_level : (p l : ℕ) → level_in p l (tree_at ps p) ≡ l
  own_level p l = root_level p l (tree_at ps p) (place_at ps low p)

  by_user : (n p u : ℕ) → User ps n p u → (k r l : ℕ) → r < k → r < n → (p ≡ r → ⊥) → 0 < occurrences u (tree_at ps r)
      → level_in p l (tree_at ps r) ≡ raised (get_or ps u Zero) p (level_in u l (tree_at ps r))
  by_user n p u w zero r l h i ne pos = absurd (not-suc-le-zero h)
  by_user n p u w (suc k) r l h i ne pos =
      let e = unrolls ps low r in
      let f = level_step p u r (tree_at ps) (raised (get_or ps u Zero) p) ne
      (λ x m. occurs_by_user ps low n p u w x (omega arith))
      (λ x m s. occurs_above ps low x u (omega arith))
      (λ x j m s. ap (λ (y : ℕ). level_in p j (tree_at ps y)) (sym s) ∙ own_level p j)
      (λ x j m s z. by_user n p u w k x j (omega arith) (omega arith) s z)
      (get_or ps r Zero) l (lower_tells r (get_or ps r Zero) (low r)) (w r i) (omega (arith, occurs_at ps low r u))
      (λ s. ap (λ (y : ℕ). raised (get_or ps y Zero) p l) s)
      in ap (level_in p l) e ∙ f ∙ ap (λ (t : Tree). raised (get_or ps u Zero) p (level_in u l t)) (sym e)

  module _ (once : (p : ℕ) → p < length ps → part_once ps p ≡ true) where
    -- the whole stands at level 0
    pub whole_level : level_at ps (length ps - 1) ≡ 0
    whole_level = own_level (length ps - 1) 0

    user_is : (p r : ℕ) → r < length ps → p < r → 0 < times p (parts_of (get_or ps r Zero)) → User ps (length ps) p r
    user_is p r h l s =
        let t = user_of ps low once p (omega arith) in
        let w = t.2 in
        let e : t.0 ≡ r = ⊎_elim (λ (q : t.0 ≡ r). q) (λ (q : t.0 ≡ r → ⊥). let z = here_other t.0 r q in omega (arith, w r h)) (cases_eq t.0 r) in
        subst (λ (y : ℕ). User ps (length ps) p y) e w

    part_below : (p r : ℕ) → 0 < times p (parts_of (get_or ps r Zero)) → p < r
    part_below p r s =
        ⊎_elim (λ (l : p < r). l) (λ (l : r ≤ p). let e = times_above p r (parts_of (get_or ps r Zero)) (below_at ps low r) l in omega arith) (cases_lt p r)

    -- no place is a part of another twice
    pub part_times : (p r : ℕ) → r < length ps → times p (parts_of (get_or ps r Zero)) ≤ 1
    part_times p r h =
        ⊎_elim
        (λ (s : 0 < times p (parts_of (get_or ps r Zero))). omega (arith, user_is p r h (part_below p r s) s r h, here_same r r refl))
        (λ (s : times p (parts_of (get_or ps r Zero)) ≤ 0). omega arith)
        (cases_lt 0 (times p (parts_of (get_or ps r Zero))))

    -- a part stands lower, at its user's level, the body of a recursion one higher
    pub part_level : (p r : ℕ) → r < length ps → 0 < times p (parts_of (get_or ps r Zero)) → (p < r) × (level_at ps p ≡ raised (get_or ps r Zero) p (level_at ps r))
    part_level p r h s =
        let l = part_below p r s in (
          l,
          by_user (length ps) p r (user_is p r h l s) (length ps) (length ps - 1) 0 (omega arith) (omega arith) (omega arith)
              (omega (arith, occurs_once ps low once r h)),
        )
