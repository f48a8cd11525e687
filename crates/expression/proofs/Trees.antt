-- A place's tree is its form over its parts' trees. Assumes nothing.
use Rattle.std.proofs.Common.{◌≡◌, ℕ, zero, suc, ◌<◌, ◌≤◌, true, List, length, get_or, refl, ap, ◌∙◌, ap₂, not-suc-le-zero, arith}
use Rattle.std.proofs.lemmas.List.{get_or_past}
use Rattle.std.proofs.lemmas.Bool.Decides.{nat_tests}
use Rattle.expression.specs.declared.form.Form.{Form}
use Rattle.expression.specs.declared.form.Form.TheVariants.{Zero, Node, Edge, Union, Mark, Out, Disjoint, Append, Graph, If, Recursion}
use Rattle.expression.specs.Forms.{Tree, t_zero, t_edge, t_union, t_mark, t_disjoint, t_append, t_if, t_recursion, lower, Lower, grown, tree_in, tree_at}

-- what the test of lower parts says
pub lower_tells : (k : ℕ) (q : Form) → lower k q ≡ true → Lower k q
lower_tells k Zero h = tt
lower_tells k Node h = tt
lower_tells k (Edge t e) h = grind (arith, nat_tests)
lower_tells k (Union e f) h = (grind (arith, nat_tests), grind (arith, nat_tests))
lower_tells k (Mark m e) h = grind (arith, nat_tests)
lower_tells k (Out m) h = tt
lower_tells k (Disjoint e f) h = (grind (arith, nat_tests), grind (arith, nat_tests))
lower_tells k (Append e f) h = (grind (arith, nat_tests), grind (arith, nat_tests))
lower_tells k (Graph j) h = tt
lower_tells k (If s t e f) h = (grind (arith, nat_tests), grind (arith, nat_tests))
lower_tells k (Recursion b a) h = (grind (arith, nat_tests), grind (arith, nat_tests))

grown_same : (r : Form) (p : ℕ) (f g : ℕ → Tree) → ((q : ℕ) → q < p → f q ≡ g q) → Lower p r → grown r p f ≡ grown r p g
grown_same Zero p f g h l = refl
grown_same Node p f g h l = refl
grown_same (Edge t e) p f g h l = ap (t_edge p t) (h e l)
grown_same (Union e x) p f g h l = ap₂ (t_union p) (h e l.0) (h x l.1)
grown_same (Mark m e) p f g h l = ap (t_mark p m) (h e l)
grown_same (Out m) p f g h l = refl
grown_same (Disjoint e x) p f g h l = ap₂ (t_disjoint p) (h e l.0) (h x l.1)
grown_same (Append e x) p f g h l = ap₂ (t_append p) (h e l.0) (h x l.1)
grown_same (Graph j) p f g h l = refl
grown_same (If s t e x) p f g h l = ap₂ (t_if p s t) (h e l.0) (h x l.1)
grown_same (Recursion b a) p f g h l = ap₂ (t_recursion p) (h b l.0) (h a l.1)

-- rounds beyond the place number change nothing
enough : (ps : List Form) → ((k : ℕ) → lower k (get_or ps k Zero) ≡ true) → (k j p : ℕ) → p < k → p < j → tree_in k ps p ≡ tree_in j ps p
unfolding tree_in
enough ps low zero j p h i = absurd (not-suc-le-zero h)
enough ps low (suc k) zero p h i = absurd (not-suc-le-zero i)
enough ps low (suc k) (suc j) p h i =
    grown_same (get_or ps p Zero) p (λ q. tree_in k ps q) (λ q. tree_in j ps q)
    (λ q l. enough ps low k j q (omega arith) (omega arith)) (lower_tells p (get_or ps p Zero) (low p))

pub unrolls : (ps : List Form) → ((k : ℕ) → lower k (get_or ps k Zero) ≡ true) → (p : ℕ) → tree_at ps p ≡ grown (get_or ps p Zero) p (tree_at ps)
unfolding tree_at tree_in
unrolls ps low p =
    grown_same (get_or ps p Zero) p (λ q. tree_in p ps q) (tree_at ps)
    (λ q l. enough ps low p (suc q) q l (omega arith)) (lower_tells p (get_or ps p Zero) (low p))

-- a place past the end is a Zero
pub past : (ps : List Form) → ((k : ℕ) → lower k (get_or ps k Zero) ≡ true) → (p : ℕ) → length ps ≤ p → tree_at ps p ≡ t_zero p
past ps low p h = unrolls ps low p ∙ ap (λ (q : Form). grown q p (tree_at ps)) (get_or_past ps p Zero h)
