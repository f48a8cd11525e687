-- Sets of markers have eight flags, and what holds of in-maps that are made of others. Assumes nothing.
use Rattle.std.proofs.Common.{◌≡◌, ℕ, suc, ◌+◌, Bool, true, false, List, [], ◌∷◌, length, get_or, replicate, sym, refl, ap, ◌∙◌, subst, arith}
use Rattle.std.proofs.lemmas.List.{length-set}
use Rattle.expression.specs.Forms.{Tree, t_zero, t_node, t_edge, t_union, t_mark, t_out, t_disjoint, t_append, t_graph, t_if, t_recursion, ins}
use Rattle.expression.specs.Markers.{both}
use Rattle.course.specs.Hubs.{slots}
use Rattle.course.specs.Forward.{merged}
use Rattle.laws.specs.Every.{Every}

length_both : (a b : List Bool) → length a ≡ length b → length (both a b) ≡ length a
length_both [] [] h = refl
length_both [] (y ∷ b) h = absurd (omega arith)
length_both (x ∷ a) [] h = refl
length_both (x ∷ a) (y ∷ b) h = ap suc (length_both a b (omega arith))

pub length_ins : (e : Tree) → length (ins e) ≡ 8
unfolding ins
length_ins (t_zero p) = refl
length_ins (t_node p) = refl
length_ins (t_edge p t e) = refl
length_ins (t_union p e f) = length_ins e
length_ins (t_mark p m e) = length-set (replicate 8 false) m true
length_ins (t_out p m) = refl
length_ins (t_disjoint p e f) = length_both (ins e) (ins f) (length_ins e ∙ sym (length_ins f)) ∙ length_ins e
length_ins (t_append p e f) = length_ins e
length_ins (t_graph p j) = refl
length_ins (t_if p s t e f) = length_ins e
length_ins (t_recursion p b a) = length_ins b

pub every_merged : (P : ℕ → Type 0) (ms : List Bool) (a b : List ℕ) → Every P a → Every P b → Every P (merged ms a b)
unfolding merged
every_merged P [] a b p q = tt
every_merged P (t ∷ ms) [] b p q = tt
every_merged P (t ∷ ms) (x ∷ a) [] p q = tt
every_merged P (true ∷ ms) (x ∷ a) (y ∷ b) p q = (p.0, every_merged P ms a b p.1 q.1)
every_merged P (false ∷ ms) (x ∷ a) (y ∷ b) p q = (q.0, every_merged P ms a b p.1 q.1)

pub every_slots : (P : ℕ → Type 0) (g : ℕ → ℕ) → P 0 → (i : ℕ) (ms : List Bool) → ((m : ℕ) → get_or ms m false ≡ true → P (g (i + m))) → Every P (slots g i ms)
unfolding slots
every_slots P g z i [] h = tt
every_slots P g z i (true ∷ ms) h = (
  subst (λ j. P (g j)) (let e : i + 0 ≡ i = omega arith in e) (h 0 refl),
  every_slots P g z (suc i) ms (λ m q. subst (λ j. P (g j)) (let e : i + suc m ≡ suc i + m = omega arith in e) (h (suc m) q)),
)
every_slots P g z i (false ∷ ms) h =
    (z, every_slots P g z (suc i) ms (λ m q. subst (λ j. P (g j)) (let e : i + suc m ≡ suc i + m = omega arith in e) (h (suc m) q)))
