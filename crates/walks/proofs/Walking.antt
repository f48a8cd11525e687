-- A walk along steps: it visits marked nodes, and what is marked at its end is what the steps lead to. Assumes nothing.
use Rattle.std.proofs.Common.{◌≡◌, ℕ, zero, suc, ◌+◌, ◌-◌, ◌<◌, Bool, true, false, ◌⊎◌, ◌↔◌, List, [], ◌∷◌, length, get_or, set, replicate, Some, sym, refl, ap, ◌∙◌, subst, inl, inr, ⊎_elim, arith, length-set}
use lib.ListN.{length-map}
use Rattle.std.proofs.lemmas.List.{get_or-map, ext_get_or, length-append, length-replicate}
use Rattle.walks.specs.Reach.{In, Reaches, stay, go, among, closure, from, lead, trues, Inside}
use Rattle.walks.specs.Visits.{Visiting, nothing, visit_one, visit_each, Takes}
use Rattle.walks.proofs.Members.{in_left}
use Rattle.walks.proofs.Marking.{Marked, mark_here, mark_keeps, mark_back, marked_within, unmarked, trues_within, after_in, after_back, after_new, in_last, in_split, counts}
use Rattle.walks.proofs.Reaching.{exact}

-- between two visits: what is marked is reached from r, and a step from a marked node leads to one, unless it is listed
pub record Walk (steps : List (ℕ × ℕ)) (r : ℕ) (s : Visiting) : Type 0 where
  pub long : length s.marks ≡ 1024
  pub sound : (v : ℕ) → Marked s.marks v → Reaches steps r v
  pub root : r < 1024 → Marked s.marks r
  pub listed : (v : ℕ) → In v s.listed → Marked s.marks v
  pub closed : (v w : ℕ) → In (v, w) steps → Marked s.marks v → In v s.listed ⊎ Marked s.marks w

-- in the visit of v, with the nodes ws still to be marked
record Visit (steps : List (ℕ × ℕ)) (r v : ℕ) (ws : List ℕ) (s : Visiting) : Type 0 where
  pub long : length s.marks ≡ 1024
  pub sound : (u : ℕ) → Marked s.marks u → Reaches steps r u
  pub root : r < 1024 → Marked s.marks r
  pub here : Marked s.marks v
  pub listed : (u : ℕ) → In u s.listed → Marked s.marks u
  pub closed : (u w : ℕ) → In (u, w) steps → Marked s.marks u → ((u ≡ v) × In w ws) ⊎ (In u s.listed ⊎ Marked s.marks w)

-- the walk from the root alone
pub walk_start : (steps : List (ℕ × ℕ)) (r : ℕ) → Walk steps r (visit_one r nothing)
walk_start steps r =
    let none : List Bool = replicate 1024 false in
    let only : (v : ℕ) → Marked (set none r true) v → v ≡ r = λ v h. ⊎_elim (λ e. e) (λ q. absurd (unmarked 1024 v q)) (mark_back none r v h) in
    let here : r < 1024 → Marked (set none r true) r = λ l. mark_here none r (omega (arith, length-replicate 1024 false)) in
    let to : (v : ℕ) → In v (visit_one r nothing).listed → Marked (set none r true) v =
    λ v j.
    ⊎_elim (λ q. subst (λ (x : ℕ). Marked (set none r true) x) (sym q.0) (here (omega (arith, q.1, length-replicate 1024 false)))) (λ z. absurd z) (after_back nothing r v j) in
    record {
      long = length-set none r true ∙ length-replicate 1024 false;
      sound = λ v h. subst (λ (x : ℕ). Reaches steps r x) (sym (only v h)) stay;
      root = here;
      listed = to;
      closed = λ v w i q.
          let e = only v q in
          let l : r < length none = subst (λ (x : ℕ). x < length none) e (omega (arith, marked_within (set none r true) v q, length-set none r true)) in
          inl (subst (λ (x : ℕ). In x (visit_one r nothing).listed) (sym e) (⊎_elim (λ z. absurd (unmarked 1024 r z)) (λ j. j) (after_new nothing r l)));
    }

module _ (steps : List (ℕ × ℕ)) (r v : ℕ) where
  visit_start : (ws : List ℕ) (s t : Visiting) → Takes s t (Some v) → ((w : ℕ) → In (v, w) steps → In w ws) → Walk steps r s → Visit steps r v ws t
  visit_start ws s t e all k =
      record {
        long = ap length e.1 ∙ k.long;
        sound = λ u q. k.sound u (before u q);
        root = λ l. after r (k.root l);
        here = after v (k.listed v (subst (λ (l : List ℕ). In v l) (sym e.0) (in_last v t.listed)));
        listed = λ u j. after u (k.listed u (subst (λ (l : List ℕ). In u l) (sym e.0) (in_left u t.listed (v ∷ []) j)));
        closed = λ u w i q.
            ⊎_elim
            (λ j. ⊎_elim (λ z. inl (z, all w (subst (λ (x : ℕ). In (x, w) steps) z i))) (λ z. inr (inl z)) (in_split u v t.listed (subst (λ (l : List ℕ). In u l) e.0 j)))
            (λ z. inr (inr (after w z))) (k.closed u w i (before u q));
      }
    where
      before : (u : ℕ) → Marked t.marks u → Marked s.marks u
      before u q = subst (λ (m : List Bool). Marked m u) e.1 q

      after : (u : ℕ) → Marked s.marks u → Marked t.marks u
      after u q = subst (λ (m : List Bool). Marked m u) (sym e.1) q

  visit_more : (t : ℕ) (ws : List ℕ) (s : Visiting) → In (v, t) steps → t < 1024 → Visit steps r v (t ∷ ws) s → Visit steps r v ws (visit_one t s)
  visit_more t ws s step l k =
      record {
        long = length-set s.marks t true ∙ k.long;
        sound = λ u q. ⊎_elim (λ z. subst (λ (x : ℕ). Reaches steps r x) (sym z) (go (k.sound v k.here) step)) (λ z. k.sound u z) (mark_back s.marks t u q);
        root = λ h. mark_keeps s.marks t r (k.root h);
        here = mark_keeps s.marks t v k.here;
        listed = λ u j. ⊎_elim (λ z. subst (λ (x : ℕ). Marked (set s.marks t true) x) (sym z.0) (mark_here s.marks t z.1)) (λ z. mark_keeps s.marks t u (k.listed u z)) (after_back s t u j);
        closed = λ u w i q. ⊎_elim (λ z. new u w i z) (λ z. old u w i z) (mark_back s.marks t u q);
      }
    where
      within : t < length s.marks
      within = omega (arith, k.long)

      old : (u w : ℕ) → In (u, w) steps → Marked s.marks u → ((u ≡ v) × In w ws) ⊎ (In u (visit_one t s).listed ⊎ Marked (set s.marks t true) w)
      old u w i q =
          ⊎_elim
          (λ a. ⊎_elim (λ z. inr (inr (subst (λ (x : ℕ). Marked (set s.marks t true) x) (sym z) (mark_here s.marks t within)))) (λ z. inl (a.0, z)) a.1)
          (λ a. inr (⊎_elim (λ b. inl (after_in s t u b)) (λ b. inr (mark_keeps s.marks t w b)) a))
          (k.closed u w i q)

      new : (u w : ℕ) → In (u, w) steps → u ≡ t → ((u ≡ v) × In w ws) ⊎ (In u (visit_one t s).listed ⊎ Marked (set s.marks t true) w)
      new u w i z =
          ⊎_elim (λ q. old u w i (subst (λ (x : ℕ). Marked s.marks x) (sym z) q)) (λ j. inr (inl (subst (λ (x : ℕ). In x (visit_one t s).listed) (sym z) j))) (after_new s t within)

  visit_all : (ws : List ℕ) (s : Visiting) → Inside 1024 steps → ((w : ℕ) → In w ws → In (v, w) steps) → Visit steps r v ws s → Walk steps r (visit_each ws s)
  visit_all [] s n only k =
      record { long = k.long; sound = k.sound; root = k.root; listed = k.listed; closed = λ u w i q. ⊎_elim (λ a. absurd a.1) (λ a. a) (k.closed u w i q) }
  visit_all (t ∷ ws) s n only k =
      visit_all ws (visit_one t s) n (λ w i. only w (inr i)) (visit_more t ws s (only t (inl refl)) (n.ends v t (only t (inl refl))).1 k)

  -- a visit of v, which is taken off the list and leads to just ws
  pub walk_more : (ws : List ℕ) (s t u : Visiting) → Inside 1024 steps → ((w : ℕ) → In w ws ↔ In (v, w) steps) → Takes s t (Some v) → u ≡ visit_each ws t → Walk steps r s → Walk steps r u
  walk_more ws s t u n exactly e q k =
      subst (λ (z : Visiting). Walk steps r z) (sym q)
      (visit_all ws t n (λ w. (exactly w).0) (visit_start ws s t e (λ w. (exactly w).1) k))

-- how much is left of a walk: more for a node that is not marked than for one that is listed
abbrev pub left : Visiting → ℕ
left s = (1024 - trues s.marks) + (1024 - trues s.marks) + length s.listed

pub left_less : (v : ℕ) (ws : List ℕ) (s t u : Visiting) → length s.marks ≡ 1024 → Takes s t (Some v) → u ≡ visit_each ws t → left u < left s
left_less v ws s t u l e q =
    let k = counts ws t in
    subst (λ (z : Visiting). left z < left s) (sym q)
    (omega (arith, k.more, k.even, k.long, l, trues_within (visit_each ws t).marks, ap trues e.1, ap length e.1, ap length e.0 ∙ length-append t.listed (v ∷ [])))

-- with nothing left to visit, the marks are what the steps lead to
complete : (steps : List (ℕ × ℕ)) (r : ℕ) (s : Visiting) → Inside 1024 steps → s.listed ≡ [] → Walk steps r s → {v : ℕ} → Reaches steps r v → v < 1024 → Marked s.marks v
complete steps r s n e k stay l = k.root l
complete steps r s n e k (go {v} {w} q i) l =
    ⊎_elim (λ z. absurd (subst (λ (h : List ℕ). In v h) e z)) (λ z. z) (k.closed v w i (complete steps r s n e k q (n.ends v w i).0))

pub length_from : (i n : ℕ) → length (from i n) ≡ n
length_from i zero = refl
length_from i (suc n) = ap suc (length_from (suc i) n)

get_or_from : (i n k : ℕ) → k < n → get_or (from i n) k 0 ≡ i + k
get_or_from i zero k h = absurd (omega arith)
get_or_from i (suc n) zero h = omega arith
get_or_from i (suc n) (suc k) h = get_or_from (suc i) n k (omega arith) ∙ omega arith

-- two flags that hold alike
pub alike : (a b : Bool) → (a ≡ true → b ≡ true) → (b ≡ true → a ≡ true) → a ≡ b
alike true b f g = sym (f refl)
alike false true f g = g refl
alike false false f g = refl

pub lead_at : (n : ℕ) (steps : List (ℕ × ℕ)) (r v : ℕ) → v < n → get_or (lead n steps r) v false ≡ among v (closure steps (r ∷ []))
unfolding lead
lead_at n steps r v l =
    get_or-map (λ u. among u (closure steps (r ∷ []))) (from 0 n) v 0 false (omega (arith, length_from 0 n))
    ∙ ap (λ u. among u (closure steps (r ∷ []))) (get_or_from 0 n v l ∙ omega arith)

pub lead_reached : (n : ℕ) (steps : List (ℕ × ℕ)) (r v : ℕ) → v < n → (get_or (lead n steps r) v false ≡ true) ↔ Reaches steps r v
lead_reached n steps r v l =
    subst (λ (b : Bool). (b ≡ true) ↔ Reaches steps r v) (sym (lead_at n steps r v l)) (exact steps r v)

pub length_lead : (n : ℕ) (steps : List (ℕ × ℕ)) (r : ℕ) → length (lead n steps r) ≡ n
unfolding lead
length_lead n steps r = length-map (from 0 n) (λ v. among v (closure steps (r ∷ []))) ∙ length_from 0 n

pub walk_end : (steps : List (ℕ × ℕ)) (r : ℕ) (s : Visiting) → Inside 1024 steps → s.listed ≡ [] → Walk steps r s → s.marks ≡ lead 1024 steps r
walk_end steps r s n e k =
    ext_get_or false s.marks (lead 1024 steps r) (k.long ∙ sym (length_lead 1024 steps r))
    (λ v h.
    let l : v < 1024 = omega (arith, k.long) in
    alike (get_or s.marks v false) (get_or (lead 1024 steps r) v false) (λ q. (lead_reached 1024 steps r v l).1 (k.sound v q)) (λ q. complete steps r s n e k ((lead_reached 1024 steps r v l).0 q) l))
