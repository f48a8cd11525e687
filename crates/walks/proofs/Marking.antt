-- Marks, how many there are, and the marked nodes that are still to be visited. Assumes nothing.
use Rattle.std.proofs.Common.{◌≡◌, ℕ, zero, suc, ◌+◌, ◌<◌, ◌≤◌, Bool, true, false, cond, ◌⊎◌, List, [], ◌∷◌, ◌++◌, length, get_or, set, replicate, sym, refl, ap, ◌∙◌, inl, inr, ⊎_elim, arith, length-set}
use Rattle.std.proofs.lemmas.List.{get_or-set_same, get_or-set_other, get_or_default, get_or_past, get_or-replicate, length-append, length-replicate}
use Rattle.std.proofs.lemmas.Bool.{cases_lt, cases_eq, both_ways}
use Rattle.walks.specs.Reach.{In, trues}
use Rattle.walks.specs.Visits.{Visiting, visit_one, visit_each}
use Rattle.walks.proofs.Members.{in_left, in_right, in_either}

abbrev pub Marked : List Bool → ℕ → Type 0
Marked m v = get_or m v false ≡ true

pub mark_here : (m : List Bool) (i : ℕ) → i < length m → Marked (set m i true) i
mark_here m i h = get_or-set_same m i true false h

pub mark_keeps : (m : List Bool) (i v : ℕ) → Marked m v → Marked (set m i true) v
mark_keeps [] i v h = h
mark_keeps (b ∷ m) zero zero h = refl
mark_keeps (b ∷ m) zero (suc v) h = h
mark_keeps (b ∷ m) (suc i) zero h = h
mark_keeps (b ∷ m) (suc i) (suc v) h = mark_keeps m i v h

pub mark_back : (m : List Bool) (i v : ℕ) → Marked (set m i true) v → (v ≡ i) ⊎ Marked m v
mark_back m i v h = ⊎_elim (λ e. inl e) (λ e. inr (sym (get_or-set_other m i v true false e) ∙ h)) (cases_eq v i)

pub marked_within : (m : List Bool) (v : ℕ) → Marked m v → v < length m
marked_within m v q = ⊎_elim (λ l. l) (λ l. absurd (both_ways (get_or m v false) (get_or_past m v false l) q)) (cases_lt v (length m))

pub unmarked : (n v : ℕ) → Marked (replicate n false) v → ⊥
unmarked n v h =
    let l = marked_within (replicate n false) v h in
    both_ways (get_or (replicate n false) v false) (get_or-replicate n v false false (omega (arith, length-replicate n false))) h

pub trues_within : (m : List Bool) → trues m ≤ length m
unfolding trues
trues_within [] = omega arith
trues_within (true ∷ m) = omega (arith, trues_within m)
trues_within (false ∷ m) = omega (arith, trues_within m)

-- the marks after a node is marked that is marked already or has no mark, or that is not
pub trues_same : (m : List Bool) (i : ℕ) → get_or m i true ≡ true → trues (set m i true) ≡ trues m
unfolding trues
trues_same [] i h = refl
trues_same (true ∷ m) zero h = refl
trues_same (false ∷ m) zero h = absurd (both_ways false refl h)
trues_same (b ∷ m) (suc i) h = ap (λ n. cond b 1 0 + n) (trues_same m i h)

pub trues_more : (m : List Bool) (i : ℕ) → get_or m i true ≡ false → trues (set m i true) ≡ trues m + 1
unfolding trues
trues_more [] i h = absurd (both_ways true h refl)
trues_more (true ∷ m) zero h = absurd (both_ways true h refl)
trues_more (false ∷ m) zero h = omega arith
trues_more (b ∷ m) (suc i) h = let q : trues (set m i true) ≡ trues m + 1 = trues_more m i h in omega arith

pub trues_below : (m : List Bool) (i : ℕ) → get_or m i true ≡ false → trues m < length m
trues_below m i h = omega (arith, trues_more m i h, trues_within (set m i true), length-set m i true)

-- what is listed after a visit
pub after_in : (s : Visiting) (i v : ℕ) → In v s.listed → In v (visit_one i s).listed
after_in s i v j =
    elim (get_or s.marks i true) as (λ b. In v (cond b s.listed (s.listed ++ i ∷ []))) [ true ↦ j | false ↦ in_left v s.listed (i ∷ []) j ]

pub in_last : (x : ℕ) (h : List ℕ) → In x (h ++ x ∷ [])
in_last x h = in_right x h (x ∷ []) (inl refl)

pub in_split : (x y : ℕ) (h : List ℕ) → In x (h ++ y ∷ []) → (x ≡ y) ⊎ In x h
in_split x y h i = ⊎_elim (λ j. inr j) (λ j. ⊎_elim (λ e. inl e) (λ z. absurd z) j) (in_either x h (y ∷ []) i)

-- a node that is listed after a visit was listed before, or is the node and newly marked
pub after_back : (s : Visiting) (i v : ℕ) → In v (visit_one i s).listed → ((v ≡ i) × (i < length s.marks)) ⊎ In v s.listed
after_back s i v = on (get_or s.marks i true) refl
  where
    new : get_or s.marks i true ≡ false → i < length s.marks
    new e = ⊎_elim (λ l. l) (λ l. absurd (both_ways (get_or s.marks i true) e (get_or_past s.marks i true l))) (cases_lt i (length s.marks))

    on : (b : Bool) → get_or s.marks i true ≡ b → In v (cond b s.listed (s.listed ++ i ∷ [])) → ((v ≡ i) × (i < length s.marks)) ⊎ In v s.listed
    on true e j = inr j
    on false e j = ⊎_elim (λ q. inl (q, new e)) (λ z. inr z) (in_split v i s.listed j)

pub after_new : (s : Visiting) (i : ℕ) → i < length s.marks → Marked s.marks i ⊎ In i (visit_one i s).listed
after_new s i l = on (get_or s.marks i true) (get_or_default s.marks i false true l)
  where
    on : (b : Bool) → get_or s.marks i false ≡ b → Marked s.marks i ⊎ In i (cond b s.listed (s.listed ++ i ∷ []))
    on true e = inl e
    on false e = inr (in_last i s.listed)

-- as many nodes are listed as are newly marked
pub record Counts (s t : Visiting) : Type 0 where
  pub more : trues s.marks ≤ trues t.marks
  pub even : length t.listed + trues s.marks ≡ length s.listed + trues t.marks
  pub long : length t.marks ≡ length s.marks

pub counts_one : (v : ℕ) (s : Visiting) → Counts s (visit_one v s)
counts_one v s = on (get_or s.marks v true) refl
  where
    on : (b : Bool) → get_or s.marks v true ≡ b → Counts s (record { marks = set s.marks v true; listed = cond b s.listed (s.listed ++ v ∷ []) })
    on true e = record { more = omega (arith, trues_same s.marks v e); even = omega (arith, trues_same s.marks v e); long = length-set s.marks v true }
    on false e =
        record {
          more = omega (arith, trues_more s.marks v e);
          even = omega (arith, trues_more s.marks v e, length-append s.listed (v ∷ []));
          long = length-set s.marks v true;
        }

pub counts : (vs : List ℕ) (s : Visiting) → Counts s (visit_each vs s)
counts [] s = record { more = omega arith; even = refl; long = refl }
counts (v ∷ vs) s =
    let one = counts_one v s in
    let rest = counts vs (visit_one v s) in
    record { more = omega (arith, one.more, rest.more); even = omega (arith, one.even, rest.even); long = rest.long ∙ one.long }
