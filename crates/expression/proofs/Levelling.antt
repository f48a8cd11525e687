-- Levels handed from each place to its parts, from the last place down. Assumes nothing.
use Rattle.std.proofs.Common.{◌≡◌, ℕ, suc, ◌-◌, ◌<◌, ◌≤◌, true, eqb, List, length, get_or, sym, refl, ap, ◌∙◌, ⊎_elim, arith}
use Rattle.std.proofs.lemmas.Bool.{cases_lt, cond_both}
use Rattle.expression.specs.declared.form.Form.{Form}
use Rattle.expression.specs.declared.form.Form.TheVariants.{Zero, Node, Edge, Union, Mark, Out, Disjoint, Append, Graph, If, Recursion}
use Rattle.expression.specs.Forms.{lower, parts_of}
use Rattle.expression.specs.Parts.{times, raised}
use Rattle.expression.specs.Admission.{part_once, level_at}
use Rattle.expression.proofs.Occurring.{here_same, below_at, user_of, user_above, times_above}
use Rattle.expression.proofs.Rising.{whole_level, part_level}

-- the last place has level 0, and the parts of each place from b on have theirs
abbrev pub Levelled : List Form → ℕ → List ℕ → Type 0
Levelled ps b levels =
    (get_or levels (length ps - 1) 0 ≡ 0)
    × ((r p : ℕ) → b ≤ r → r < length ps → 0 < times p (parts_of (get_or ps r Zero)) → get_or levels p 0 ≡ level_at ps p)

-- the places after a form at the level l has handed its parts their levels
abbrev pub Handed : Form → ℕ → List ℕ → List ℕ → Type 0
Handed q l levels after =
    ((p : ℕ) → 0 < times p (parts_of q) → get_or after p 0 ≡ raised q p l)
    × ((p : ℕ) → times p (parts_of q) ≡ 0 → get_or after p 0 ≡ get_or levels p 0)

pub raised_bound : (q : Form) (p l : ℕ) → raised q p l ≤ suc l
raised_bound Zero p l = omega arith
raised_bound Node p l = omega arith
raised_bound (Edge t e) p l = omega arith
raised_bound (Union e f) p l = omega arith
raised_bound (Mark m e) p l = omega arith
raised_bound (Out m) p l = omega arith
raised_bound (Disjoint e f) p l = omega arith
raised_bound (Append e f) p l = omega arith
raised_bound (Graph j) p l = omega arith
raised_bound (If s t e f) p l = omega arith
raised_bound (Recursion b a) p l = cond_both (eqb p b) (suc l) l (λ x. x ≤ suc l) (λ e. omega arith) (λ e. omega arith)

module _ (ps : List Form) (low : (k : ℕ) → lower k (get_or ps k Zero) ≡ true) (once : (p : ℕ) → p < length ps → part_once ps p ≡ true) where
  -- so each place whose user is passed has its level
  pub levelled_at : (b : ℕ) (levels : List ℕ) → Levelled ps b levels → (p : ℕ) → b ≤ suc p → p < length ps → get_or levels p 0 ≡ level_at ps p
  levelled_at b levels h p l m =
      ⊎_elim
      (λ (i : suc p < length ps).
      let t = user_of ps low once p i in
      let w = t.2 in
      let a = user_above ps low (length ps) p t.0 t.1 w in
      h.1 t.0 p (omega arith) t.1 (omega (arith, w t.0 t.1, here_same t.0 t.0 refl)))
      (λ (i : length ps ≤ suc p).
      let e : p ≡ length ps - 1 = omega arith in
      ap (λ (q : ℕ). get_or levels q 0) e ∙ h.0 ∙ sym (whole_level ps low once) ∙ ap (level_at ps) (sym e))
      (cases_lt (suc p) (length ps))

  -- one more place hands its level on
  pub levelled_more : (i : ℕ) (levels after : List ℕ) → i < length ps → Levelled ps (suc i) levels
      → Handed (get_or ps i Zero) (get_or levels i 0) levels after → Levelled ps i after
  levelled_more i levels after l h handed = (
    handed.1 (length ps - 1) (times_above (length ps - 1) i (parts_of (get_or ps i Zero)) (below_at ps low i) (omega arith)) ∙ h.0,
    λ r p m k w.
        ⊎_elim
        (λ (z : 0 < times p (parts_of (get_or ps i Zero))).
        handed.0 p z ∙ ap (raised (get_or ps i Zero) p) (levelled_at (suc i) levels h i (omega arith) l) ∙ sym (part_level ps low once p i l z).1)
        (λ (z : times p (parts_of (get_or ps i Zero)) ≤ 0).
        let ne : r ≡ i → ⊥ = λ e. let f = ap (λ (q : ℕ). times p (parts_of (get_or ps q Zero))) e in omega arith in
        handed.1 p (omega arith) ∙ h.1 r p (omega arith) k w)
        (cases_lt 0 (times p (parts_of (get_or ps i Zero)))),
  )
