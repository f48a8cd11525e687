-- The rules of an expression's parts, from those of the expression. Assumes nothing.
use Rattle.std.proofs.Common.{◌≡◌, ℕ, suc, ◌+◌, ◌<◌, ◌≤◌, true, ◌&&◌, ltb, leb, sym, ap, ◌∙◌, add-one}
use Rattle.std.proofs.lemmas.Bool.{and_parts, ltb-true, leb-true}
use Rattle.expression.specs.declared.term.Term.{Term}
use Rattle.expression.specs.declared.term.Term.TheVariants.{Constant, Variable}
use Rattle.expression.specs.Forms.{Tree, t_edge, t_union, t_mark, t_out, t_disjoint, t_append, t_graph, t_if, t_recursion, ins, outs}
use Rattle.expression.specs.Markers.{no_markers, just, alike}
use Rattle.expression.specs.Rules.{term_fits, fits, sets_fit, keeps}
use Rattle.course.specs.View.{Known}

known : (n l : ℕ) (t : Term) → term_fits n l t ≡ true → Known l t
known n l (Constant c) h = tt
known n l (Variable j) h = leb-true j l (and_parts (leb 1 j) (leb j l) h).1

pub fits_edge : (n l : ℕ) {x e : Tree} {p : ℕ} {t : Term} → x ≡ t_edge p t e → fits n l x ≡ true → Known l t × (fits n l e ≡ true)
unfolding fits
fits_edge n l {e} {p} {t} q h = let k = and_parts (term_fits n l t) (fits n l e) (sym (ap (fits n l) q) ∙ h) in (known n l t k.0, k.1)

pub fits_union : (n l : ℕ) {x e g : Tree} {p : ℕ} → x ≡ t_union p e g → fits n l x ≡ true → (fits n l e ≡ true) × (fits n l g ≡ true)
unfolding fits
fits_union n l {e} {g} q h = and_parts (fits n l e) (fits n l g) (sym (ap (fits n l) q) ∙ h)

pub fits_disjoint : (n l : ℕ) {x e g : Tree} {p : ℕ} → x ≡ t_disjoint p e g → fits n l x ≡ true → (fits n l e ≡ true) × (fits n l g ≡ true)
unfolding fits
fits_disjoint n l {e} {g} q h = and_parts (fits n l e) (fits n l g) (sym (ap (fits n l) q) ∙ h)

pub fits_append : (n l : ℕ) {x e g : Tree} {p : ℕ} → x ≡ t_append p e g → fits n l x ≡ true → (fits n l e ≡ true) × (fits n l g ≡ true)
unfolding fits
fits_append n l {e} {g} q h = and_parts (fits n l e) (fits n l g) (sym (ap (fits n l) q) ∙ h)

pub fits_mark : (n l : ℕ) {x e : Tree} {p m : ℕ} → x ≡ t_mark p m e → fits n l x ≡ true → (m < 8) × (fits n l e ≡ true)
unfolding fits
fits_mark n l {e} {m} q h = let k = and_parts (ltb m 8) (fits n l e) (sym (ap (fits n l) q) ∙ h) in (ltb-true m 8 k.0, k.1)

pub fits_out : (n l : ℕ) {x : Tree} {p m : ℕ} → x ≡ t_out p m → fits n l x ≡ true → m < 8
unfolding fits
fits_out n l {m} q h = ltb-true m 8 (sym (ap (fits n l) q) ∙ h)

pub fits_graph : (n l : ℕ) {x : Tree} {p j : ℕ} → x ≡ t_graph p j → fits n l x ≡ true → j ≤ l
unfolding fits
fits_graph n l {j} q h = leb-true j l (sym (ap (fits n l) q) ∙ h)

pub fits_if : (n l : ℕ) {x e g : Tree} {p : ℕ} {s t : Term} → x ≡ t_if p s t e g → fits n l x ≡ true
    → Known l s × Known l t × (fits n l e ≡ true) × (fits n l g ≡ true)
unfolding fits
fits_if n l {e} {g} {s} {t} q h =
    let k = and_parts (term_fits n l s && term_fits n l t) (fits n l e && fits n l g) (sym (ap (fits n l) q) ∙ h) in
    let a = and_parts (term_fits n l s) (term_fits n l t) k.0 in
    let b = and_parts (fits n l e) (fits n l g) k.1 in
    (known n l s a.0, known n l t a.1, b.0, b.1)

pub fits_recursion : (n l : ℕ) {x b a : Tree} {p : ℕ} → x ≡ t_recursion p b a → fits n l x ≡ true
    → (l < 4) × (fits n (l + 1) b ≡ true) × (fits n l a ≡ true)
unfolding fits
fits_recursion n l {b} {a} q h =
    let k = and_parts (ltb l 4) (fits n (suc l) b && fits n l a) (sym (ap (fits n l) q) ∙ h) in
    let m = and_parts (fits n (suc l) b) (fits n l a) k.1 in
    (ltb-true l 4 k.0, ap (λ i. fits n i b) (add-one l) ∙ m.0, m.1)

-- a whole expression stands at level 0
pub keeps_fits : (n : ℕ) (e : Tree) → keeps n e ≡ true → fits n 0 e ≡ true
unfolding keeps
keeps_fits n e h = (and_parts (fits n 0 e) (sets_fit e && (alike (ins e) (just 0) && alike (outs e) no_markers)) h).0
