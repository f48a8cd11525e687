-- Chains of steps: how they grow, and that they hold just the steps that leave their node. Assumes nothing.
use Rattle.std.proofs.Common.{◌≡◌, ℕ, zero, suc, ◌+◌, ◌<◌, ◌≤◌, Bool, true, false, cond, eqb, ◌↔◌, List, [], ◌∷◌, ◌++◌, map, length, get_or, set, Some, None, Option, sym, refl, ap, ◌∙◌, subst, inl, inr, ⊎_elim, arith}
use Rattle.std.proofs.Math.Seq.{get_or-append_seam}
use Rattle.std.proofs.lemmas.List.{get_or-set_same, get_or-set_other, get_or_past, get_or_append_left, map-append}
use Rattle.std.proofs.lemmas.Bool.{cases_eq, cases_lt, cases_Bool, eq-eqb, ne_eqb, eqb-true, cond-true, cond-false}
use Rattle.walks.specs.declared.step_table.Step.{Step}
use Rattle.walks.specs.Chains.{no_step, ends, tail_at, latest_of}
use Rattle.walks.specs.Reach.{In, Inside}
use Rattle.walks.specs.Visits.{Visiting, visit_one, visit_each}
use Rattle.walks.proofs.Members.{in_map, of_map, in_at, in_either, place_of}

-- how many steps stand before the end of a chain
abbrev pub bound : Option ℕ → ℕ
bound None = 0
bound (Some k) = suc k

abbrev head_at : List Step → ℕ → ℕ
head_at steps k = (get_or steps k no_step).head

-- one more step
module _ (steps : List Step) (x : Step) where
  same_at : (k : ℕ) → k < length steps → get_or (steps ++ x ∷ []) k no_step ≡ get_or steps k no_step
  same_at k l = get_or_append_left steps (x ∷ []) no_step k l

  latest_same : (v n : ℕ) → n ≤ length steps → latest_of (steps ++ x ∷ []) v n ≡ latest_of steps v n
  latest_same v zero l = refl
  latest_same v (suc k) l =
      ap (λ t. cond (eqb t v) (Some k) (latest_of (steps ++ x ∷ []) v k)) (ap (λ (s : Step). s.tail) (same_at k (omega arith)))
      ∙ ap (cond (eqb (tail_at steps k) v) (Some k)) (latest_same v k (omega arith))

  latest_more : (v : ℕ) → latest_of (steps ++ x ∷ []) v (suc (length steps)) ≡ cond (eqb x.tail v) (Some (length steps)) (latest_of steps v (length steps))
  latest_more v =
      ap (λ (s : Step). cond (eqb s.tail v) (Some (length steps)) (latest_of (steps ++ x ∷ []) v (length steps))) (get_or-append_seam steps x [] no_step)
      ∙ ap (cond (eqb x.tail v) (Some (length steps))) (latest_same v (length steps) (omega arith))

  latest_added : (latest : List (Option ℕ)) → length latest ≡ 1024 → ((v : ℕ) → v < 1024 → get_or latest v None ≡ latest_of steps v (length steps)) →
      (v : ℕ) → v < 1024 → get_or (set latest x.tail (Some (length steps))) v None ≡ latest_of (steps ++ x ∷ []) v (suc (length steps))
  latest_added latest long held v l =
      ⊎_elim
      (λ e.
      ap (λ i. get_or (set latest x.tail (Some (length steps))) i None) e ∙ get_or-set_same latest x.tail (Some (length steps)) None (omega arith)
      ∙ sym (latest_more v ∙ cond-true (eqb x.tail v) (Some (length steps)) (latest_of steps v (length steps)) (eq-eqb x.tail v (sym e))))
      (λ e.
      get_or-set_other latest x.tail v (Some (length steps)) None e ∙ held v l
      ∙ sym (latest_more v ∙ cond-false (eqb x.tail v) (Some (length steps)) (latest_of steps v (length steps)) (ne_eqb x.tail v (λ z. e (sym z)))))
      (cases_eq v x.tail)

  before_added : x.before ≡ latest_of steps x.tail (length steps) → ((k : ℕ) → k < length steps → (get_or steps k no_step).before ≡ latest_of steps (tail_at steps k) k) →
      (k : ℕ) → k < suc (length steps) → (get_or (steps ++ x ∷ []) k no_step).before ≡ latest_of (steps ++ x ∷ []) (tail_at (steps ++ x ∷ []) k) k
  before_added q held k l =
      ⊎_elim
      (λ e. subst (λ (i : ℕ). (get_or (steps ++ x ∷ []) i no_step).before ≡ latest_of (steps ++ x ∷ []) (tail_at (steps ++ x ∷ []) i) i) (sym e)
      (ap (λ (s : Step). s.before) (get_or-append_seam steps x [] no_step) ∙ q ∙ sym (latest_same x.tail (length steps) (omega arith))
      ∙ ap (λ (s : Step). latest_of (steps ++ x ∷ []) s.tail (length steps)) (sym (get_or-append_seam steps x [] no_step))))
      (λ e.
      let lk : k < length steps = omega arith in
      ap (λ (s : Step). s.before) (same_at k lk) ∙ held k lk ∙ sym (latest_same (tail_at steps k) k (omega arith))
      ∙ ap (λ (s : Step). latest_of (steps ++ x ∷ []) s.tail k) (sym (same_at k lk)))
      (cases_eq k (length steps))

  inside_added : x.tail < 1024 → x.head < 1024 → Inside 1024 (map ends steps) → Inside 1024 (map ends (steps ++ x ∷ []))
  inside_added t h n =
      record {
        ends = λ v w i.
            ⊎_elim (λ j. n.ends v w j)
            (λ j. ⊎_elim (λ e. (omega (arith, ap (λ (p : ℕ × ℕ). p.0) e), omega (arith, ap (λ (p : ℕ × ℕ). p.1) e))) (λ z. absurd z) j)
            (in_either (v, w) (map ends steps) (ends x ∷ []) (subst (λ (l : List (ℕ × ℕ)). In (v, w) l) (map-append ends steps (x ∷ [])) i));
      }

-- a table of n steps, with one more in it
module _ (steps : List Step) (x : Step) (n : ℕ) (ys : List Step) (q : n ≡ length steps) (p : ys ≡ steps ++ x ∷ []) where
  pub latest_grown : (latest : List (Option ℕ)) (m : ℕ) → m ≡ n + 1 → length latest ≡ 1024 → ((v : ℕ) → v < 1024 → get_or latest v None ≡ latest_of steps v n) →
      (v : ℕ) → v < 1024 → get_or (set latest x.tail (Some n)) v None ≡ latest_of ys v m
  latest_grown latest m e long held v l =
      let z : m ≡ suc (length steps) = omega arith in
      ap (λ i. get_or (set latest x.tail (Some i)) v None) q ∙ latest_added steps x latest long (λ u h. held u h ∙ ap (latest_of steps u) q) v l
      ∙ ap (latest_of (steps ++ x ∷ []) v) (sym z) ∙ ap (λ (l : List Step). latest_of l v m) (sym p)

  pub before_grown : (m : ℕ) → m ≡ n + 1 → x.before ≡ latest_of steps x.tail n → ((k : ℕ) → k < n → (get_or steps k no_step).before ≡ latest_of steps (tail_at steps k) k) →
      (k : ℕ) → k < m → (get_or ys k no_step).before ≡ latest_of ys (tail_at ys k) k
  before_grown m e b held k l =
      subst (λ (l : List Step). (get_or l k no_step).before ≡ latest_of l (tail_at l k) k) (sym p)
      (before_added steps x (b ∙ ap (latest_of steps x.tail) q) (λ j h. held j (omega arith)) k (omega arith))

  pub inside_grown : x.tail < 1024 → x.head < 1024 → Inside 1024 (map ends steps) → Inside 1024 (map ends ys)
  inside_grown t h i = subst (λ (l : List Step). Inside 1024 (map ends l)) (sym p) (inside_added steps x t h i)

latest_below : (steps : List Step) (v n : ℕ) → bound (latest_of steps v n) ≤ n
latest_below steps v zero = omega arith
latest_below steps v (suc k) =
    elim (eqb (tail_at steps k) v) as (λ b. bound (cond b (Some k) (latest_of steps v k)) ≤ suc k) [ true ↦ omega arith | false ↦ omega (arith, latest_below steps v k) ]

latest_settled : (steps : List Step) (v n : ℕ) → latest_of steps v (bound (latest_of steps v n)) ≡ latest_of steps v n
latest_settled steps v zero = refl
latest_settled steps v (suc k) =
    ⊎_elim
    (λ e. ap (λ o. latest_of steps v (bound o)) (cond-true (eqb (tail_at steps k) v) (Some k) (latest_of steps v k) e))
    (λ e.
    let q = cond-false (eqb (tail_at steps k) v) (Some k) (latest_of steps v k) e in
    ap (λ o. latest_of steps v (bound o)) q ∙ latest_settled steps v k ∙ sym q)
    (cases_Bool (eqb (tail_at steps k) v))

-- where the latest of the first k + 1 steps is the step k, it leaves v
latest_here : (steps : List Step) (v k : ℕ) → Some k ≡ latest_of steps v (suc k) → tail_at steps k ≡ v
latest_here steps v k h =
    ⊎_elim (λ e. eqb-true (tail_at steps k) v e)
    (λ e. absurd (omega (arith, ap bound h, ap bound (cond-false (eqb (tail_at steps k) v) (Some k) (latest_of steps v k) e), latest_below steps v k)))
    (cases_Bool (eqb (tail_at steps k) v))

-- no step leaves a node that is past the ends
latest_past : (steps : List Step) (v n : ℕ) → Inside 1024 (map ends steps) → 1024 ≤ v → n ≤ length steps → latest_of steps v n ≡ None
latest_past steps v zero h l m = refl
latest_past steps v (suc k) h l m =
    let t = (h.ends (tail_at steps k) (head_at steps k) (in_map ends (get_or steps k no_step) steps (in_at steps k no_step (omega arith)))).0 in
    cond-false (eqb (tail_at steps k) v) (Some k) (latest_of steps v k) (ne_eqb (tail_at steps k) v (λ e. omega arith)) ∙ latest_past steps v k h l (omega arith)

-- the table of the latest, read at any node
pub latest_read : (steps : List Step) (latest : List (Option ℕ)) (n : ℕ) → n ≡ length steps → length latest ≡ 1024 → ((v : ℕ) → v < 1024 → get_or latest v None ≡ latest_of steps v n) → Inside 1024 (map ends steps) →
    (v : ℕ) → get_or latest v None ≡ latest_of steps v (length steps)
latest_read steps latest n e long held h v =
    ⊎_elim (λ l. held v l ∙ ap (latest_of steps v) e) (λ l. get_or_past latest v None (omega arith) ∙ sym (latest_past steps v (length steps) h l (omega arith))) (cases_lt v 1024)

-- the heads of the first n steps that leave v, the latest first
abbrev pub outs : List Step → ℕ → ℕ → List ℕ
outs steps v zero = []
outs steps v (suc k) = cond (eqb (tail_at steps k) v) (head_at steps k ∷ outs steps v k) (outs steps v k)

-- steps past the latest are not among the outs
outs_latest : (steps : List Step) (v n : ℕ) → outs steps v (bound (latest_of steps v n)) ≡ outs steps v n
outs_latest steps v zero = refl
outs_latest steps v (suc k) =
    ⊎_elim
    (λ e. ap (λ o. outs steps v (bound o)) (cond-true (eqb (tail_at steps k) v) (Some k) (latest_of steps v k) e))
    (λ e.
    ap (λ o. outs steps v (bound o)) (cond-false (eqb (tail_at steps k) v) (Some k) (latest_of steps v k) e) ∙ outs_latest steps v k
    ∙ sym (cond-false (eqb (tail_at steps k) v) (head_at steps k ∷ outs steps v k) (outs steps v k) e))
    (cases_Bool (eqb (tail_at steps k) v))

-- a chain is followed, which has turned the state t into s so far
pub record Following (steps : List Step) (v : ℕ) (at : Option ℕ) (s t : Visiting) : Type 0 where
  pub within : bound at ≤ length steps
  pub settled : at ≡ latest_of steps v (bound at)
  pub visited : visit_each (outs steps v (bound at)) s ≡ visit_each (outs steps v (length steps)) t

module _ (steps : List Step) (v : ℕ) where
  -- the rest of a chain, from the latest of the first n steps
  from_latest : (n : ℕ) (at : Option ℕ) (s t : Visiting) → n ≤ length steps → at ≡ latest_of steps v n → visit_each (outs steps v n) s ≡ visit_each (outs steps v (length steps)) t → Following steps v at s t
  from_latest n at s t l e h =
      record {
        within = omega (arith, ap bound e, latest_below steps v n);
        settled = e ∙ sym (latest_settled steps v n) ∙ ap (λ o. latest_of steps v (bound o)) (sym e);
        visited = ap (λ (vs : List ℕ). visit_each vs s) (ap (λ o. outs steps v (bound o)) e ∙ outs_latest steps v n) ∙ h;
      }

  pub following_first : (at : Option ℕ) (s : Visiting) → at ≡ latest_of steps v (length steps) → Following steps v at s s
  following_first at s e = from_latest (length steps) at s s (omega arith) e refl

  -- one turn, at the step with the number k
  module _ (at before : Option ℕ) (k : ℕ) (s t : Visiting) (e : at ≡ Some k) (f : Following steps v at s t) where
    pub step_within : k < length steps
    step_within = omega (arith, f.within, ap bound e)

    leaves : tail_at steps k ≡ v
    leaves = latest_here steps v k (sym e ∙ f.settled ∙ ap (λ o. latest_of steps v (bound o)) e)

    before_is : before ≡ latest_of steps (tail_at steps k) k → before ≡ latest_of steps v k
    before_is q = q ∙ ap (λ u. latest_of steps u k) leaves

    pub turn_less : before ≡ latest_of steps (tail_at steps k) k → bound before < bound at
    turn_less q = omega (arith, ap bound (before_is q), latest_below steps v k, ap bound e)

    pub turn : (u : Visiting) → before ≡ latest_of steps (tail_at steps k) k → u ≡ visit_one (head_at steps k) s → Following steps v before u t
    turn u q z =
        from_latest k before u t (omega (arith, step_within)) (before_is q)
        (ap (visit_each (outs steps v k)) z
        ∙ sym (ap (λ (vs : List ℕ). visit_each vs s) (ap (λ o. outs steps v (bound o)) e ∙ cond-true (eqb (tail_at steps k) v) (head_at steps k ∷ outs steps v k) (outs steps v k) (eq-eqb (tail_at steps k) v leaves)))
        ∙ f.visited)

  -- at the end of a chain its outs are visited
  pub followed : (at : Option ℕ) (s t : Visiting) → at ≡ None → Following steps v at s t → s ≡ visit_each (outs steps v (length steps)) t
  followed at s t e f = sym (ap (λ o. visit_each (outs steps v (bound o)) s) e) ∙ f.visited

-- the outs of v are exactly what the steps lead to from it
of_outs : (steps : List Step) (v w n : ℕ) → n ≤ length steps → In w (outs steps v n) → In (v, w) (map ends steps)
of_outs steps v w zero l i = absurd i
of_outs steps v w (suc k) l i = on (of_outs steps v w k (omega arith)) (eqb (tail_at steps k) v) refl i
  where
    on : (In w (outs steps v k) → In (v, w) (map ends steps)) → (b : Bool) → eqb (tail_at steps k) v ≡ b → In w (cond b (head_at steps k ∷ outs steps v k) (outs steps v k)) → In (v, w) (map ends steps)
    on rest false e j = rest j
    on rest true e (inr j) = rest j
    on rest true e (inl q) =
        let p : ◌≡◌ {A = ℕ × ℕ} (tail_at steps k, head_at steps k) (v, w) = ap (λ t. (t, head_at steps k)) (eqb-true (tail_at steps k) v e) ∙ ap (λ h. (v, h)) (sym q) in
        subst (λ (z : ℕ × ℕ). In z (map ends steps)) p (in_map ends (get_or steps k no_step) steps (in_at steps k no_step (omega arith)))

out_at : (steps : List Step) (v n k : ℕ) → k < n → tail_at steps k ≡ v → In (head_at steps k) (outs steps v n)
out_at steps v zero k l e = absurd (omega arith)
out_at steps v (suc j) k l e =
    ⊎_elim
    (λ q. subst (λ (i : ℕ). In (head_at steps k) (cond (eqb (tail_at steps i) v) (head_at steps i ∷ outs steps v i) (outs steps v i))) q
    (subst (λ (l : List ℕ). In (head_at steps k) l) (sym (cond-true (eqb (tail_at steps k) v) (head_at steps k ∷ outs steps v k) (outs steps v k) (eq-eqb (tail_at steps k) v e))) (inl refl)))
    (λ q.
    let z : In (head_at steps k) (outs steps v j) = out_at steps v j k (omega arith) e in
    elim (eqb (tail_at steps j) v) as (λ b. In (head_at steps k) (cond b (head_at steps j ∷ outs steps v j) (outs steps v j))) [ true ↦ inr z | false ↦ z ])
    (cases_eq k j)

pub outs_exact : (steps : List Step) (v w : ℕ) → In w (outs steps v (length steps)) ↔ In (v, w) (map ends steps)
outs_exact steps v w = (
  λ i. of_outs steps v w (length steps) (omega arith) i,
  λ i.
      let f = of_map ends (v, w) steps i in
      let p = place_of f.0 steps no_step f.1 in
      let t : tail_at steps p.0 ≡ v = ap (λ (s : Step). s.tail) p.2 ∙ sym (ap (λ (x : ℕ × ℕ). x.0) f.2) in
      let h : head_at steps p.0 ≡ w = ap (λ (s : Step). s.head) p.2 ∙ sym (ap (λ (x : ℕ × ℕ). x.1) f.2) in
      subst (λ (x : ℕ). In x (outs steps v (length steps))) h (out_at steps v (length steps) p.0 p.1 t),
)
