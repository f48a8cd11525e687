-- The closure is what the steps reach. Assumes nothing.
use Rattle.std.proofs.Common.{◌≡◌, ℕ, ◌<◌, Bool, true, false, not, ◌&&◌, eqb, ◌⊎◌, ◌↔◌, List, [], ◌∷◌, sym, refl, ap, ◌∙◌, subst, inl, inr, ⊎_elim}
use Rattle.std.proofs.lemmas.Bool.{eqb-true, eq-eqb, or_cases, or_left, or_right, and_parts, not-false, both_ways}
use Rattle.walks.specs.Reach.{among, In, Reaches, stay, go, closure, Inside}

among_head : (v : ℕ) (s : List ℕ) → among v (v ∷ s) ≡ true
among_head v s = or_left (eqb v v) (among v s) (eq-eqb v v refl)

wider : (steps : List (ℕ × ℕ)) (a : ℕ × ℕ) (u : ℕ) {v : ℕ} → Reaches steps u v → Reaches (a ∷ steps) u v
wider steps a u stay = stay
wider steps a u (go r j) = go (wider steps a u r) (inr j)

joined : (steps : List (ℕ × ℕ)) (u v : ℕ) {w : ℕ} → Reaches steps u v → Reaches steps v w → Reaches steps u w
joined steps u v r stay = r
joined steps u v r (go q j) = go (joined steps u v r q) j

-- each of the closure is reached from one of the set
abbrev From : List (ℕ × ℕ) → List ℕ → ℕ → Type 0
From steps s v = (u : ℕ) × (among u s ≡ true) × Reaches steps u v

-- the test whether the first step leads out
abbrev leads : ℕ × ℕ → List ℕ → Bool
leads a once = among a.0 once && not (among a.1 once)

sound_step : (a : ℕ × ℕ) (rest : List (ℕ × ℕ)) (s once again : List ℕ) (v : ℕ) →
    ((w : ℕ) → among w once ≡ true → From rest s w) → (among v again ≡ true → From rest (a.1 ∷ once) v) →
    (t : Bool) → leads a once ≡ t → among v (elim t [ true ↦ again | false ↦ once ]) ≡ true → From (a ∷ rest) s v
sound_step a rest s once again v first then false e k = let f = first v k in (f.0, f.1, wider rest a f.0 f.2)
sound_step a rest s once again v first then true e k =
    let g : From rest (a.1 ∷ once) v = then k in
    on g.0 g.2 (or_cases (eqb g.0 a.1) (among g.0 once) g.1)
  where
    out : From (a ∷ rest) s a.1
    out = let f = first a.0 (and_parts (among a.0 once) (not (among a.1 once)) e).0 in (f.0, f.1, go (wider rest a f.0 f.2) (inl refl))

    on : (u : ℕ) → Reaches rest u v → (eqb u a.1 ≡ true) ⊎ (among u once ≡ true) → From (a ∷ rest) s v
    on u r (inl h) =
        (out.0, out.1, joined (a ∷ rest) out.0 u (subst (λ (x : ℕ). Reaches (a ∷ rest) out.0 x) (sym (eqb-true u a.1 h)) out.2) (wider rest a u r))
    on u r (inr h) = let f = first u h in (f.0, f.1, joined (a ∷ rest) f.0 u (wider rest a f.0 f.2) (wider rest a u r))

sound : (steps : List (ℕ × ℕ)) (s : List ℕ) (v : ℕ) → among v (closure steps s) ≡ true → From steps s v
sound [] s v h = (v, h, stay)
sound (a ∷ rest) s v h =
    sound_step a rest s (closure rest s) (closure rest (a.1 ∷ closure rest s)) v (λ w k. sound rest s w k) (λ k. sound rest (a.1 ∷ closure rest s) v k)
    (leads a (closure rest s)) refl h

-- the set is in its closure
holds : (steps : List (ℕ × ℕ)) (s : List ℕ) (v : ℕ) → among v s ≡ true → among v (closure steps s) ≡ true
holds [] s v h = h
holds (a ∷ rest) s v h =
    let k : among v (closure rest s) ≡ true = holds rest s v h in
    elim (leads a (closure rest s)) as (λ t. among v (elim t [ true ↦ closure rest (a.1 ∷ closure rest s) | false ↦ closure rest s ]) ≡ true)
    [ true ↦ holds rest (a.1 ∷ closure rest s) v (or_right (eqb v a.1) (among v (closure rest s)) k) | false ↦ k ]

closed_step : (a : ℕ × ℕ) (once again : List ℕ) (v w : ℕ) →
    (among v once ≡ true → among w once ≡ true) → (among v again ≡ true → among w again ≡ true) →
    (t : Bool) → among v (elim t [ true ↦ again | false ↦ once ]) ≡ true → among w (elim t [ true ↦ again | false ↦ once ]) ≡ true
closed_step a once again v w p q true h = q h
closed_step a once again v w p q false h = p h

closed_first : (v w : ℕ) (once again : List ℕ) → among w again ≡ true →
    (t : Bool) → leads (v, w) once ≡ t → among v (elim t [ true ↦ again | false ↦ once ]) ≡ true → among w (elim t [ true ↦ again | false ↦ once ]) ≡ true
closed_first v w once again p true e h = p
closed_first v w once again p false e h = not-false (among w once) (sym (ap (λ b. b && not (among w once)) h) ∙ e)

-- empty leads out of a closure
pub closed : (v w : ℕ) (steps : List (ℕ × ℕ)) (s : List ℕ) → In (v, w) steps → among v (closure steps s) ≡ true → among w (closure steps s) ≡ true
closed v w [] s i h = absurd i
closed v w (a ∷ rest) s (inl q) h =
    let once = closure rest s in
    subst (λ (z : ℕ × ℕ). among v (closure (z ∷ rest) s) ≡ true → among w (closure (z ∷ rest) s) ≡ true) q
    (λ h'. closed_first v w once (closure rest (w ∷ once)) (holds rest (w ∷ once) w (among_head w once)) (leads (v, w) once) refl h') h
closed v w (a ∷ rest) s (inr i) h =
    let once = closure rest s in
    closed_step a once (closure rest (a.1 ∷ once)) v w (closed v w rest s i) (closed v w rest (a.1 ∷ once) i) (leads a once) h

complete : (steps : List (ℕ × ℕ)) (s : List ℕ) (u : ℕ) {v : ℕ} → Reaches steps u v → among u s ≡ true → among v (closure steps s) ≡ true
complete steps s u stay h = holds steps s u h
complete steps s u (go {v} {w} r j) h = closed v w steps s j (complete steps s u r h)

pub exact : (steps : List (ℕ × ℕ)) (r v : ℕ) → (among v (closure steps (r ∷ [])) ≡ true) ↔ Reaches steps r v
exact steps r v = (
  λ h. let f = sound steps (r ∷ []) v h in only f.0 f.2 (or_cases (eqb f.0 r) false f.1),
  λ q. complete steps (r ∷ []) r q (among_head r []),
)
  where
    only : (u : ℕ) → Reaches steps u v → (eqb u r ≡ true) ⊎ (false ≡ true) → Reaches steps r v
    only u q (inl e) = subst (λ (x : ℕ). Reaches steps x v) (eqb-true u r e) q
    only u q (inr e) = absurd (both_ways false refl e)

-- what is reached is the root, unless steps leave the root
pub reached_from : (n : ℕ) (steps : List (ℕ × ℕ)) (r v : ℕ) → Inside n steps → Reaches steps r v → (v ≡ r) ⊎ (r < n)
reached_from n steps r x h stay = inl refl
reached_from n steps r x h (go {v} {w} q i) =
    ⊎_elim (λ e. inr (subst (λ (x : ℕ). x < n) e (h.ends v w i).0)) (λ l. inr l) (reached_from n steps r v h q)
