-- The hubs that are made are as many as their numbers say, so that a hub of the set is a node. Assumes nothing.
use Rattle.std.proofs.Common.{◌≡◌, ℕ, zero, suc, ◌+◌, ◌*◌, ◌<◌, ◌≤◌, Bool, true, false, cond, ltb, List, [], ◌∷◌, ◌++◌, length, get_or, take, sym, refl, ap, subst, ⊎_elim, mul-le-mul_right, add-mul, arith, length-append}
use Rattle.std.proofs.lemmas.Bool.{both_ways, cases_lt}
use Rattle.std.proofs.lemmas.List.{get_or_past}
use Rattle.course.specs.declared.course.Node.{Node}
use Rattle.course.specs.declared.course.ListName.TheVariants.{Nodes}
use Rattle.course.specs.Course.{Course, Run, done, full, Step, onward, give, enter_node, new_node, each_at}
use Rattle.walks.specs.Reach.{trues}
use Rattle.course.specs.Hubs.{hub, hubs}
use Rattle.course.specs.View.{Within}
use Rattle.course.proofs.Slots.{slots_at, slots_long}
use Rattle.course.specs.Forward.{hub_step, hubs_step}

-- fewer are set before one that is set than in all
pub trues_before : (s : List Bool) (v : ℕ) → get_or s v false ≡ true → trues (take v s) < trues s
unfolding trues
trues_before [] v h = absurd (both_ways false refl h)
trues_before (true ∷ s) zero h = omega arith
trues_before (false ∷ s) zero h = absurd (both_ways false refl h)
trues_before (b ∷ s) (suc v) h = let q : trues (take v s) < trues s = trues_before s v h in omega arith

-- the hub of a reached node for a marker of the set is one of those made
pub hub_below : (s ms : List Bool) (h v m : ℕ) → get_or s v false ≡ true → get_or ms m false ≡ true → hub s ms h v m < h + trues s * trues ms
hub_below s ms h v m p q =
    let a : trues (take v s) + 1 ≤ trues s = omega (arith, trues_before s v p) in
    let b : (trues (take v s) + 1) * trues ms ≤ trues s * trues ms = mul-le-mul_right (trues ms) a in
    let c : (trues (take v s) + 1) * trues ms ≡ trues (take v s) * trues ms + 1 * trues ms = add-mul (trues (take v s)) 1 (trues ms) in
    omega (arith, trues_before ms m q)

-- a step that adds n nodes where it is done
abbrev pub Adds : ℕ → Step (Unit {0}) → Type 0
Adds n m = (c d : Course) → m c ≡ done tt d → length d.nodes ≡ length c.nodes + n

adds_onward : (n k : ℕ) (c d : Course) (run : Run (Unit {0})) (next : Step (Unit {0})) → ((e : Course) → run ≡ done tt e → length e.nodes ≡ length c.nodes + n) → Adds k next
    → onward run (λ y. next) ≡ done tt d → length d.nodes ≡ length c.nodes + (n + k)
adds_onward n k c d (done tt e) next h t q = omega (arith, h e refl, t e d q)
adds_onward n k c d (full x) next h t q = let z : ◌≡◌ {A = ℕ} 0 1 = cc in absurd (omega arith)

each_adds : (w : ℕ) (step : ℕ → Bool → Step (Unit {0})) → ((i : ℕ) (b : Bool) → Adds (cond b w 0) (step i b)) → (i : ℕ) (s : List Bool) → Adds (trues s * w) (each_at step i s)
unfolding each_at trues
each_adds w step h i [] c d q = let e : c ≡ d = cc in omega (arith, ap (λ (x : Course). length x.nodes) e)
each_adds w step h i (true ∷ s) c d q =
    omega (arith, adds_onward w (trues s * w) c d (step i true c) (each_at step (suc i) s) (h i true c) (each_adds w step h (suc i) s) q, add-mul 1 (trues s) w)
each_adds w step h i (false ∷ s) c d q =
    omega (arith, adds_onward 0 (trues s * w) c d (step i false c) (each_at step (suc i) s) (h i false c) (each_adds w step h (suc i) s) q, add-mul 0 (trues s) w)

abbrev none : Unit {0}
none = tt

node_adds : (n : Node) (c d : Course) (b : Bool) → onward (cond b (done (length c.nodes) (record { nodes = c.nodes ++ n ∷ []; arrows = c.arrows; frames = c.frames; comparisons = c.comparisons })) (full (record { place = n.place; frame = n.frame; list = Nodes }))) (λ y. give none) ≡ done none d → length d.nodes ≡ length c.nodes + 1
node_adds n c d true q =
    let e : c.nodes ++ n ∷ [] ≡ d.nodes = ap (λ (r : Run (Unit {0})). elim r [ done x y ↦ y.nodes | full x ↦ [] ]) q in
    omega (arith, ap length e, length-append c.nodes (n ∷ []))
node_adds n c d false q = let z : ◌≡◌ {A = ℕ} 0 1 = cc in absurd (omega arith)

hub_adds : (p f v m : ℕ) (b : Bool) → Adds (cond b 1 0) (hub_step p f v m b)
unfolding enter_node
hub_adds p f v m true c d q = node_adds (record { place = p; frame = f; marker = m; stands = v }) c d (ltb (length c.nodes) 1024) q
hub_adds p f v m false c d q = let e : c ≡ d = cc in omega (arith, ap (λ (x : Course). length x.nodes) e)

-- a node that stands for itself
pub plain_adds : (p f m : ℕ) (c d : Course) (n : ℕ) → new_node p f m c ≡ done n d → length d.nodes ≡ length c.nodes + 1
plain_adds p f m c d n q = hub_adds p f (length c.nodes) m true c d (ap (λ (r : Run ℕ). onward r (λ x. give none)) q)

of_adds : (p f : ℕ) (ms : List Bool) (v : ℕ) (b : Bool) → Adds (cond b (trues ms) 0) (hubs_step p f ms v b)
of_adds p f ms v true c d q = omega (arith, each_adds 1 (hub_step p f v) (hub_adds p f v) 0 ms c d q)
of_adds p f ms v false c d q = let e : c ≡ d = cc in omega (arith, ap (λ (x : Course). length x.nodes) e)

-- so every hub's number is a node once they are made
pub hubs_add : (p f : ℕ) (ms s : List Bool) → Adds (trues s * trues ms) (each_at (hubs_step p f ms) 0 s)
hubs_add p f ms s = each_adds (trues ms) (hubs_step p f ms) (of_adds p f ms) 0 s

-- the hubs of a node of the set are nodes once they are made
pub hubs_within : (s ms : List Bool) (h v n : ℕ) → get_or s v false ≡ true → h + trues s * trues ms ≤ n → 0 < n → Within n (hubs s ms h v)
hubs_within s ms h v n on l some m =
    ⊎_elim
    (λ lt. subst (λ x. x < n) (sym (slots_at (hub s ms h v) 0 ms m lt)) (at (get_or ms m false) refl))
    (λ ge. subst (λ x. x < n) (sym (get_or_past (hubs s ms h v) m 0 (omega (arith, slots_long (hub s ms h v) 0 ms, ge)))) some)
    (cases_lt m (length ms))
  where
    at : (b : Bool) → get_or ms m false ≡ b → cond b (hub s ms h v (0 + m)) 0 < n
    at true e = let z : 0 + m ≡ m = omega arith in subst (λ k. hub s ms h v k < n) (sym z) (omega (arith, hub_below s ms h v m on e, l))
    at false e = some
