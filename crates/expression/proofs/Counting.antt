-- How often a place is a part: one more place, and a bound. Assumes nothing.
use Rattle.std.proofs.Common.{◌≡◌, ℕ, zero, suc, ◌+◌, ◌*◌, ◌<◌, ◌≤◌, List, [], ◌∷◌, length, get_or, refl, ap, ⊎_elim, add-one, arith}
use Rattle.std.proofs.lemmas.List.{get_or_past}
use Rattle.std.proofs.lemmas.Bool.{cases_lt}
use Rattle.expression.specs.declared.form.Form.{Form}
use Rattle.expression.specs.declared.form.Form.TheVariants.{Zero, Node, Edge, Union, Mark, Out, Disjoint, Append, Graph, If, Recursion}
use Rattle.expression.specs.Forms.{parts_of}
use Rattle.expression.specs.Parts.{here, times, Below, uses}
use Rattle.expression.proofs.Occurring.{here_cases}

pub uses_none : (ps : List Form) (p : ℕ) → uses ps 0 p ≡ 0
unfolding uses
uses_none ps p = refl

pub uses_more : (ps : List Form) (k p : ℕ) → uses ps (k + 1) p ≡ uses ps k p + times p (parts_of (get_or ps k Zero))
unfolding uses
uses_more ps k p = ap (λ (j : ℕ). uses ps j p) (add-one k)

pub here_bound : (p q : ℕ) → here p q ≤ 1
here_bound p q = ⊎_elim (λ h. omega arith) (λ h. omega arith) (here_cases p q)

two_bound : (p e f : ℕ) → here p e + (here p f + 0) ≤ 2
two_bound p e f = omega (arith, here_bound p e, here_bound p f)

one_bound : (p e : ℕ) → here p e + 0 ≤ 2
one_bound p e = omega (arith, here_bound p e)

parts_bound : (p : ℕ) (q : Form) → times p (parts_of q) ≤ 2
parts_bound p Zero = omega arith
parts_bound p Node = omega arith
parts_bound p (Edge t e) = one_bound p e
parts_bound p (Union e f) = two_bound p e f
parts_bound p (Mark m e) = one_bound p e
parts_bound p (Out m) = omega arith
parts_bound p (Disjoint e f) = two_bound p e f
parts_bound p (Append e f) = two_bound p e f
parts_bound p (Graph j) = omega arith
parts_bound p (If s t e f) = two_bound p e f
parts_bound p (Recursion b a) = two_bound p b a

pub uses_bound : (ps : List Form) (k p : ℕ) → uses ps k p ≤ 2 * k
unfolding uses
uses_bound ps zero p = omega arith
uses_bound ps (suc k) p = omega (arith, uses_bound ps k p, parts_bound p (get_or ps k Zero))

pub below_further : (r s : ℕ) (xs : List ℕ) → r ≤ s → Below r xs → Below s xs
below_further r s [] h b = tt
below_further r s (x ∷ xs) h b = (omega arith, below_further r s xs h b.1)

-- counts of at most 64 places are small, also past the table's end
pub counts_small : (ps : List Form) (counts : List ℕ) (k : ℕ) → k ≤ 64 → length counts ≡ 64
    → ((p : ℕ) → p < 64 → get_or counts p 0 ≡ uses ps k p) → (p : ℕ) → get_or counts p 0 < 900
counts_small ps counts k h s is p =
    ⊎_elim
    (λ (l : p < 64). omega (arith, is p l, uses_bound ps k p))
    (λ (l : 64 ≤ p). omega (arith, get_or_past counts p 0 (omega arith)))
    (cases_lt p 64)
