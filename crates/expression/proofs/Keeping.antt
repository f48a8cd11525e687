-- A table that passes every check: the tree of its last place keeps the rules. Assumes nothing.
use Rattle.std.proofs.Common.{◌≡◌, ℕ, zero, suc, ◌+◌, ◌-◌, ◌<◌, ◌≤◌, true, cond, eqb, List, length, get_or, sym, refl, ap, ◌∙◌, subst, not-suc-le-zero, arith}
use Rattle.std.proofs.lemmas.Bool.{and_parts, and_from, leb-true, lt-ltb, eq-eqb, ne_eqb, cond-true, cond-false}
use Rattle.expression.specs.declared.form.Form.{Form}
use Rattle.expression.specs.declared.form.Form.TheVariants.{Zero, Node, Edge, Union, Mark, Out, Disjoint, Append, Graph, If, Recursion}
use Rattle.expression.specs.Forms.{Tree, lower, Lower, grown, tree_at, parts_of}
use Rattle.expression.specs.Parts.{here, times, raised}
use Rattle.expression.specs.Sets.{sets_of, sets_at}
use Rattle.expression.specs.Rules.{fits, sets_fit, keeps}
use Rattle.expression.specs.Admission.{part_once, fields_fit, level_at, range_kept, sets_hold, closed, sets_agree}
use Rattle.expression.proofs.Trees.{unrolls, lower_tells}
use Rattle.expression.proofs.Occurring.{here_same}
use Rattle.expression.proofs.Rising.{whole_level, part_level, part_times}

-- the first and the second of two parts
pub first_of : (e f : ℕ) → 0 < here e e + (here e f + 0)
first_of e f = omega (arith, here_same e e refl)

pub second_of : (e f : ℕ) → 0 < here f e + (here f f + 0)
second_of e f = omega (arith, here_same f f refl)

pub only : (e : ℕ) → 0 < here e e + 0
only e = omega (arith, here_same e e refl)

-- from the levels of the parts: in range, if the parts are
module _ (c r l : ℕ) (T : ℕ → Tree) where
  fits_grown : (q : Form) → fields_fit c l q ≡ true
      → ((e : ℕ) → times e (parts_of q) ≤ 1)
      → ((e : ℕ) → 0 < times e (parts_of q) → raised q e l ≤ 4)
      → ((e : ℕ) → 0 < times e (parts_of q) → fits c (raised q e l) (T e) ≡ true)
      → fits c l (grown q r T) ≡ true
  unfolding fits
  fits_grown Zero h one level part = refl
  fits_grown Node h one level part = refl
  fits_grown (Edge t e) h one level part = and_from _ _ h (part e (only e))
  fits_grown (Union e f) h one level part = and_from _ _ (part e (first_of e f)) (part f (second_of e f))
  fits_grown (Mark m e) h one level part = and_from _ _ h (part e (only e))
  fits_grown (Out m) h one level part = h
  fits_grown (Disjoint e f) h one level part = and_from _ _ (part e (first_of e f)) (part f (second_of e f))
  fits_grown (Append e f) h one level part = and_from _ _ (part e (first_of e f)) (part f (second_of e f))
  fits_grown (Graph j) h one level part = h
  fits_grown (If s t e f) h one level part = and_from _ _ h (and_from _ _ (part e (first_of e f)) (part f (second_of e f)))
  fits_grown (Recursion b a) h one level part =
      let body = cond-true (eqb b b) (suc l) l (eq-eqb b b refl) in
      let apart : a ≡ b → ⊥ = λ e. omega (arith, one a, here_same a a refl, here_same a b e) in
      let argument = cond-false (eqb a b) (suc l) l (ne_eqb a b apart) in
      and_from _ _ (lt-ltb l 4 (omega (arith, level b (first_of b a), body)))
      (and_from _ _
      (subst (λ (k : ℕ). fits c k (T b) ≡ true) body (part b (first_of b a)))
      (subst (λ (k : ℕ). fits c k (T a) ≡ true) argument (part a (second_of b a))))

sets_grown : (r : ℕ) (T : ℕ → Tree) (q : Form) → sets_hold (λ e. sets_of (T e)) q ≡ true → Lower r q
    → ((e : ℕ) → e < r → sets_fit (T e) ≡ true) → sets_fit (grown q r T) ≡ true
unfolding sets_fit
sets_grown r T Zero h l part = refl
sets_grown r T Node h l part = refl
sets_grown r T (Edge t e) h l part = and_from _ _ (part e l) h
sets_grown r T (Union e f) h l part = and_from _ _ (and_from _ _ (part e l.0) (part f l.1)) h
sets_grown r T (Mark m e) h l part = and_from _ _ (part e l) h
sets_grown r T (Out m) h l part = refl
sets_grown r T (Disjoint e f) h l part = and_from _ _ (and_from _ _ (part e l.0) (part f l.1)) h
sets_grown r T (Append e f) h l part = and_from _ _ (part e l.0) (part f l.1)
sets_grown r T (Graph j) h l part = refl
sets_grown r T (If s t e f) h l part = and_from _ _ (and_from _ _ (part e l.0) (part f l.1)) h
sets_grown r T (Recursion b a) h l part = and_from _ _ (and_from _ _ (part b l.0) (part a l.1)) h

module _ (ps : List Form) (low : (k : ℕ) → lower k (get_or ps k Zero) ≡ true) (once : (p : ℕ) → p < length ps → part_once ps p ≡ true) where
  -- the levels and the fields, place by place
  fits_below : (c : ℕ) → ((p : ℕ) → p < length ps → range_kept ps c p ≡ true) → (k r : ℕ) → r < k → r < length ps → fits c (level_at ps r) (tree_at ps r) ≡ true
  fits_below c range zero r h l = absurd (not-suc-le-zero h)
  fits_below c range (suc k) r h l =
      ap (fits c (level_at ps r)) (unrolls ps low r)
      ∙ fits_grown c r (level_at ps r) (tree_at ps) (get_or ps r Zero)
      (and_parts _ _ (range r l)).1
      (λ e. omega (arith, part_times ps low once e r l))
      (λ e w.
      let d = part_level ps low once e r l w in
      let m = d.0 in
      let g : level_at ps e ≤ 4 = leb-true (level_at ps e) 4 (and_parts _ _ (range e (omega arith))).0 in
      omega (arith, d.1))
      (λ e w.
      let d = part_level ps low once e r l w in
      let m = d.0 in
      subst (λ (x : ℕ). fits c x (tree_at ps e) ≡ true) d.1 (fits_below c range k e (omega arith) (omega arith)))

  sets_below : ((p : ℕ) → p < length ps → sets_agree ps p ≡ true) → (k r : ℕ) → r < k → r < length ps → sets_fit (tree_at ps r) ≡ true
  sets_below agree zero r h l = absurd (not-suc-le-zero h)
  sets_below agree (suc k) r h l =
      ap sets_fit (unrolls ps low r)
      ∙ sets_grown r (tree_at ps) (get_or ps r Zero) (and_parts _ _ (agree r l)).0 (lower_tells r (get_or ps r Zero) (low r))
      (λ e m. sets_below agree k e (omega arith) (omega arith))

  pub kept : (c : ℕ) → 0 < length ps → ((p : ℕ) → p < length ps → range_kept ps c p ≡ true) → ((p : ℕ) → p < length ps → sets_agree ps p ≡ true) → keeps c (tree_at ps (length ps - 1)) ≡ true
  unfolding keeps
  kept c some range agree =
      let w = length ps - 1 in
      let last : suc w ≡ length ps = omega arith in
      let in_use : w < length ps = omega arith in
      let whole : cond (eqb (suc w) (length ps)) (closed (sets_at ps w)) true ≡ true = (and_parts _ _ (agree w in_use)).1 in
      and_from _ _
      (subst (λ (l : ℕ). fits c l (tree_at ps w) ≡ true) (whole_level ps low once) (fits_below c range (length ps) w in_use in_use))
      (and_from _ _ (sets_below agree (length ps) w in_use in_use)
      (sym (cond-true (eqb (suc w) (length ps)) (closed (sets_at ps w)) true (eq-eqb (suc w) (length ps) last)) ∙ whole))
