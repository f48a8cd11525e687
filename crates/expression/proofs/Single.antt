-- The table of one node passes every check. Assumes nothing.
use Rattle.std.proofs.Common.{◌≡◌, ℕ, zero, suc, ◌-◌, ◌<◌, true, List, [], ◌∷◌, length, get_or, replicate, None, sym, refl, ap, ◌∙◌, subst, arith}
use Rattle.expression.specs.declared.form.Form.{Form}
use Rattle.expression.specs.declared.form.Form.TheVariants.{Zero, Node}
use Rattle.expression.specs.Forms.{lower, tree_at, tree_in, ins, outs}
use Rattle.expression.specs.Parts.{uses, level_in}
use Rattle.expression.specs.Rules.{keeps}
use Rattle.expression.specs.Admission.{part_once, level_at, HasLevels, range_kept, sets_agree, lowest}
use Rattle.expression.proofs.Lowest.{each_passes}
use Rattle.expression.proofs.Keeping.{kept}

abbrev pub single : List Form
single = Node ∷ []

pub single_lower : (k : ℕ) → lower k (get_or single k Zero) ≡ true
single_lower zero = refl
single_lower (suc k) = refl

pub lower_in_single : (ps : List Form) → ps ≡ single → (k : ℕ) → lower k (get_or ps k Zero) ≡ true
lower_in_single ps is k = ap (λ (qs : List Form). lower k (get_or qs k Zero)) is ∙ single_lower k

uses_right : lowest 1 (part_once single) ≡ None
unfolding lowest uses
uses_right = refl

range_right : lowest 1 (range_kept single 0) ≡ None
unfolding lowest level_in tree_at tree_in
range_right = refl

sets_right : lowest 1 (sets_agree single) ≡ None
unfolding lowest ins outs tree_at tree_in
sets_right = refl

single_once : (k : ℕ) → k < 1 → part_once single k ≡ true
single_once = each_passes (part_once single) 1 uses_right

single_range : (k : ℕ) → k < 1 → range_kept single 0 k ≡ true
single_range = each_passes (range_kept single 0) 1 range_right

single_level : (k : ℕ) → k < 1 → get_or (replicate 64 0) k 0 ≡ level_at single k
unfolding level_in tree_at tree_in
single_level zero h = refl
single_level (suc k) h = let z : ⊥ = omega arith in absurd z

single_keeps : keeps 0 (tree_at single 0) ≡ true
single_keeps = kept single single_lower single_once 0 (omega arith) single_range (each_passes (sets_agree single) 1 sets_right)

-- what the rules ask of a table without constants, and its levels
abbrev pub Passes : List Form → Type 0
Passes ps =
    ((k : ℕ) → k < length ps → part_once ps k ≡ true)
    × HasLevels ps (replicate 64 0)
    × ((k : ℕ) → k < length ps → range_kept ps 0 k ≡ true)
    × (keeps 0 (tree_at ps (length ps - 1)) ≡ true)

pub single_passes : (ps : List Form) → ps ≡ single → Passes ps
single_passes ps is = subst Passes (sym is) (single_once, single_level, single_range, single_keeps)
