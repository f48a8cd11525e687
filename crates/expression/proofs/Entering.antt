-- The sets of a place's tree are those of its form, from the sets of its parts. Assumes nothing.
use Rattle.std.proofs.Common.{◌≡◌, ℕ, suc, ◌+◌, ◌<◌, ◌≤◌, true, cond, ◌&&◌, eqb, List, [], length, get_or, set, sym, refl, ap, ◌∙◌, ap₂, arith}
use Rattle.expression.specs.declared.form.Form.{Form}
use Rattle.expression.specs.declared.form.Form.TheVariants.{Zero, Node, Edge, Union, Mark, Out, Disjoint, Append, Graph, If, Recursion}
use Rattle.expression.specs.declared.sets.Sets.{Sets}
use Rattle.expression.specs.Markers.{no_markers, just, both, alike, apart, within}
use Rattle.expression.specs.Forms.{Tree, lower, Lower, grown, tree_at, ins, outs}
use Rattle.expression.specs.Sets.{both_sets, row, sets_from, sets_of, sets_at, HasSets}
use Rattle.expression.specs.Admission.{sets_hold, closed, sets_agree_by, sets_agree}
use Rattle.expression.proofs.Filling.{filled_more}
use Rattle.expression.proofs.Trees.{lower_tells, unrolls, past}

sets_grown : (q : Form) (r : ℕ) (f : ℕ → Tree) → sets_of (grown q r f) ≡ sets_from (λ e. sets_of (f e)) q
unfolding ins outs
sets_grown Zero r f = refl
sets_grown Node r f = refl
sets_grown (Edge t e) r f = refl
sets_grown (Union e g) r f = refl
sets_grown (Mark m e) r f = refl
sets_grown (Out m) r f = refl
sets_grown (Disjoint e g) r f = refl
sets_grown (Append e g) r f = refl
sets_grown (Graph j) r f = refl
sets_grown (If s t e g) r f = refl
sets_grown (Recursion b a) r f = refl

-- only the sets of the parts matter
module _ (r : ℕ) (i j : ℕ → Sets) (same : (e : ℕ) → e < r → i e ≡ j e) where
  from_same : (q : Form) → Lower r q → sets_from i q ≡ sets_from j q
  from_same Zero l = refl
  from_same Node l = refl
  from_same (Edge t e) l = ap (λ (x : Sets). both_sets (just 0) x.out_set) (same e l)
  from_same (Union e f) l = ap₂ (λ (x y : Sets). both_sets x.in_set (both x.out_set y.out_set)) (same e l.0) (same f l.1)
  from_same (Mark m e) l = ap (λ (x : Sets). both_sets (just m) x.out_set) (same e l)
  from_same (Out m) l = refl
  from_same (Disjoint e f) l = ap₂ (λ (x y : Sets). both_sets (both x.in_set y.in_set) (both x.out_set y.out_set)) (same e l.0) (same f l.1)
  from_same (Append e f) l = ap₂ (λ (x y : Sets). both_sets x.in_set y.out_set) (same e l.0) (same f l.1)
  from_same (Graph k) l = refl
  from_same (If s t e f) l = ap₂ (λ (x y : Sets). both_sets x.in_set (both x.out_set y.out_set)) (same e l.0) (same f l.1)
  from_same (Recursion b a) l = ap (λ (x : Sets). both_sets x.in_set no_markers) (same b l.0)

  hold_same : (q : Form) → Lower r q → sets_hold i q ≡ sets_hold j q
  hold_same Zero l = refl
  hold_same Node l = refl
  hold_same (Edge t e) l = ap (λ (x : Sets). alike x.in_set (just 0)) (same e l)
  hold_same (Union e f) l = ap₂ (λ (x y : Sets). alike x.in_set y.in_set) (same e l.0) (same f l.1)
  hold_same (Mark m e) l = ap (λ (x : Sets). alike x.in_set (just 0)) (same e l)
  hold_same (Out m) l = refl
  hold_same (Disjoint e f) l = ap₂ (λ (x y : Sets). apart x.in_set y.in_set) (same e l.0) (same f l.1)
  hold_same (Append e f) l = refl
  hold_same (Graph k) l = refl
  hold_same (If s t e f) l = ap₂ (λ (x y : Sets). alike x.in_set y.in_set) (same e l.0) (same f l.1)
  hold_same (Recursion b a) l = ap₂ (λ (x y : Sets). closed y && within x.out_set x.in_set) (same b l.0) (same a l.1)

module _ (ps : List Form) (low : (k : ℕ) → lower k (get_or ps k Zero) ≡ true) where
  pub low_at : (p : ℕ) → Lower p (get_or ps p Zero)
  low_at p = lower_tells p (get_or ps p Zero) (low p)

  sets_grow : (p : ℕ) → sets_at ps p ≡ sets_from (sets_at ps) (get_or ps p Zero)
  sets_grow p = ap sets_of (unrolls ps low p) ∙ sets_grown (get_or ps p Zero) p (tree_at ps)

  -- a place past the end is a Zero
  pub past_sets : (p : ℕ) → length ps ≤ p → both_sets no_markers no_markers ≡ sets_at ps p
  unfolding ins outs
  past_sets p h = sym (ap sets_of (past ps low p h))

  -- a table that has the sets of the places serves the tests as well
  pub agree_by : (sets : List Sets) → HasSets ps sets → (p : ℕ) → p < length ps → sets_agree_by (row sets) ps p ≡ sets_agree ps p
  agree_by sets has p l =
      ap₂ ◌&&◌
      (hold_same p (row sets) (sets_at ps) (λ e h. has e (omega arith)) (get_or ps p Zero) (low_at p))
      (ap (λ (x : Sets). cond (eqb (suc p) (length ps)) (closed x) true) (has p l))

  -- a table of sets, filled from the first place on
  pub sets_more : (sets : List Sets) (p : ℕ) (x : Sets) → p < length sets → ((k : ℕ) → k < p → row sets k ≡ sets_at ps k)
      → x ≡ sets_from (row sets) (get_or ps p Zero) → (k : ℕ) → k < p + 1 → row (set sets p x) k ≡ sets_at ps k
  sets_more sets p x l below is =
      filled_more sets p x (both_sets [] []) (sets_at ps) l below
      (is ∙ from_same p (row sets) (sets_at ps) below (get_or ps p Zero) (low_at p) ∙ sym (sets_grow p))
