-- The numbers of the flags that are set, and the arrows that leave a set. Assumes nothing.
use Rattle.std.proofs.Common.{◌≡◌, ℕ, zero, suc, ◌+◌, ◌-◌, ◌<◌, ◌≤◌, Bool, true, false, cond, ◌||◌, eqb, ltb, ◌⊎◌, List, [], ◌∷◌, map, length, get_or, take, sym, refl, ap, ◌∙◌, subst, inl, inr, arith}
use Rattle.std.proofs.lemmas.Bool.{eqb-true, eq-eqb, ne_eqb, lt-ltb, le-ltb, or_cases, or_left, or_right, both_ways, cases_eq}
use Rattle.course.specs.declared.course.Arrow.{Arrow}
use Rattle.walks.specs.Reach.{In, among, trues}
use Rattle.course.specs.Reach.{lost, reached}
use Rattle.laws.specs.Every.{Every, Ascending}
use Rattle.laws.specs.Recursion.{members, Numbered, leaving, below, MembersExact, ArrowsExact, NodesExact}
use Rattle.laws.proofs.Everies.{every_in}
use Rattle.laws.proofs.Reaching.{reached_exact, reached_within}

pub in_among : (v : ℕ) (xs : List ℕ) → In v xs → among v xs ≡ true
in_among v [] i = absurd i
in_among v (x ∷ xs) (inl e) = or_left (eqb v x) (among v xs) (eq-eqb v x e)
in_among v (x ∷ xs) (inr i) = or_right (eqb v x) (among v xs) (in_among v xs i)

pub among_in : (v : ℕ) (xs : List ℕ) → among v xs ≡ true → In v xs
among_in v [] h = both_ways false refl h
among_in v (x ∷ xs) h = on (among_in v xs) (or_cases (eqb v x) (among v xs) h)
  where
    on : (among v xs ≡ true → In v xs) → (eqb v x ≡ true) ⊎ (among v xs ≡ true) → In v (x ∷ xs)
    on more (inl e) = inl (eqb-true v x e)
    on more (inr e) = inr (more e)

-- all members, counted from i on, are i or above
members_above : (j i : ℕ) (bs : List Bool) → j < i → Every (λ y. j < y) (members i bs)
members_above j i [] h = tt
members_above j i (true ∷ bs) h = (h, members_above j (suc i) bs (omega arith))
members_above j i (false ∷ bs) h = members_above j (suc i) bs (omega arith)

pub members_ascending : (i : ℕ) (bs : List Bool) → Ascending (members i bs)
members_ascending i [] = tt
members_ascending i (true ∷ bs) = (members_above i (suc i) bs (omega arith), members_ascending (suc i) bs)
members_ascending i (false ∷ bs) = members_ascending (suc i) bs

among_above : (v : ℕ) (xs : List ℕ) → Every (λ y. v < y) xs → among v xs ≡ false
among_above v [] h = refl
among_above v (x ∷ xs) h =
    let q : v < x = h.0 in
    ap (λ b. b || among v xs) (ne_eqb v x (λ e. omega arith)) ∙ among_above v xs h.1

among_from : (i v : ℕ) (bs : List Bool) → among (i + v) (members i bs) ≡ get_or bs v false
among_from i v [] = refl
among_from i zero (true ∷ bs) = or_left (eqb (i + 0) i) _ (eq-eqb (i + 0) i (omega arith))
among_from i zero (false ∷ bs) = among_above (i + 0) (members (suc i) bs) (members_above (i + 0) (suc i) bs (omega arith))
among_from i (suc v) (true ∷ bs) =
    ap (λ b. b || among (i + suc v) (members (suc i) bs)) (ne_eqb (i + suc v) i (λ e. omega arith))
    ∙ ap (λ w. among w (members (suc i) bs)) (let e : i + suc v ≡ suc i + v = omega arith in e) ∙ among_from (suc i) v bs
among_from i (suc v) (false ∷ bs) = ap (λ w. among w (members (suc i) bs)) (let e : i + suc v ≡ suc i + v = omega arith in e) ∙ among_from (suc i) v bs

-- a number is a member exactly where its flag is set
pub among_members : (v : ℕ) (bs : List Bool) → among v (members 0 bs) ≡ get_or bs v false
among_members v bs = ap (λ w. among w (members 0 bs)) (let e : v ≡ 0 + v = omega arith in e) ∙ among_from 0 v bs

pub in_members : (v : ℕ) (bs : List Bool) → In v (members 0 bs) → get_or bs v false ≡ true
in_members v bs i = sym (among_members v bs) ∙ in_among v (members 0 bs) i

pub members_in : (v : ℕ) (bs : List Bool) → get_or bs v false ≡ true → In v (members 0 bs)
members_in v bs h = among_in v (members 0 bs) (among_members v bs ∙ h)

pub members_exact : MembersExact
members_exact bs = (members_ascending 0 bs, λ v. (in_members v bs, members_in v bs))

pub length_members : (i : ℕ) (bs : List Bool) → length (members i bs) ≡ trues bs
unfolding trues
length_members i [] = refl
length_members i (true ∷ bs) = ap suc (length_members (suc i) bs) ∙ omega arith
length_members i (false ∷ bs) = length_members (suc i) bs ∙ omega arith

below_above : (v : ℕ) (xs : List ℕ) → Every (λ y. v < y) xs → below v xs ≡ 0
below_above v [] h = refl
below_above v (x ∷ xs) h =
    let q : v < x = h.0 in
    ap (λ b. cond b 1 0 + below v xs) (le-ltb x v (omega arith)) ∙ let e : below v xs ≡ 0 = below_above v xs h.1 in omega arith

below_from : (i v : ℕ) (bs : List Bool) → below (i + v) (members i bs) ≡ trues (take v bs)
unfolding trues
below_from i zero [] = refl
below_from i (suc v) [] = refl
below_from i zero (true ∷ bs) =
    ap (λ b. cond b 1 0 + below (i + 0) (members (suc i) bs)) (le-ltb i (i + 0) (omega arith))
    ∙ let e : below (i + 0) (members (suc i) bs) ≡ 0 = below_above (i + 0) (members (suc i) bs) (members_above (i + 0) (suc i) bs (omega arith)) in omega arith
below_from i zero (false ∷ bs) = below_above (i + 0) (members (suc i) bs) (members_above (i + 0) (suc i) bs (omega arith))
below_from i (suc v) (true ∷ bs) =
    ap (λ b. cond b 1 0 + below (i + suc v) (members (suc i) bs)) (lt-ltb i (i + suc v) (omega arith))
    ∙ ap (λ w. 1 + below w (members (suc i) bs)) (let e : i + suc v ≡ suc i + v = omega arith in e) ∙ ap (λ w. 1 + w) (below_from (suc i) v bs)
below_from i (suc v) (false ∷ bs) =
    ap (λ w. below w (members (suc i) bs)) (let e : i + suc v ≡ suc i + v = omega arith in e) ∙ below_from (suc i) v bs ∙ omega arith

-- as many members are below v as flags are set before it
pub below_members : (v : ℕ) (bs : List Bool) → below v (members 0 bs) ≡ trues (take v bs)
below_members v bs = ap (λ w. below w (members 0 bs)) (let e : v ≡ 0 + v = omega arith in e) ∙ below_from 0 v bs

below_first : (v x : ℕ) (xs : List ℕ) → Every (λ y. x < y) xs → v ≡ x → below v (x ∷ xs) ≡ 0
below_first v x xs h e =
    let z : below v xs ≡ 0 = below_above v xs (subst (λ w. Every (λ y. w < y) xs) (sym e) h) in
    ap (λ b. cond b 1 0 + below v xs) (le-ltb x v (omega arith)) ∙ omega arith

-- in an ascending list an element stands where as many are below it
pub get_or_below : (v d : ℕ) (xs : List ℕ) → Ascending xs → In v xs → get_or xs (below v xs) d ≡ v
get_or_below v d [] h i = absurd i
get_or_below v d (x ∷ xs) h (inl e) = ap (λ w. get_or (x ∷ xs) w d) (below_first v x xs h.0 e) ∙ sym e
get_or_below v d (x ∷ xs) h (inr i) =
    let q : x < v = every_in (λ y. x < y) xs v h.0 i in
    ap (λ w. get_or (x ∷ xs) w d) (ap (λ b. cond b 1 0 + below v xs) (lt-ltb x v q) ∙ (let e : 1 + below v xs ≡ suc (below v xs) = omega arith in e))
    ∙ get_or_below v d xs h.1 i

cond_below : (b : Bool) (n l : ℕ) → n < l → cond b 1 0 + n < suc l
cond_below true n l h = omega arith
cond_below false n l h = omega arith

pub below_length : (v : ℕ) (xs : List ℕ) → Ascending xs → In v xs → below v xs < length xs
below_length v [] h i = absurd i
below_length v (x ∷ xs) h (inl e) = let z : below v (x ∷ xs) ≡ 0 = below_first v x xs h.0 e in omega arith
below_length v (x ∷ xs) h (inr i) = cond_below (ltb x v) (below v xs) (length xs) (below_length v xs h.1 i)

-- S is what arrows reach
pub nodes_exact : NodesExact
nodes_exact c r = (
  members_ascending 0 flags,
  λ v. (
    λ i.
        let h : v < length c.nodes = reached_within (length c.nodes) c.arrows r v (in_members v flags i) in
        (h, (reached_exact (length c.nodes) c.arrows r v h).0 (in_members v flags i)),
    λ q. members_in v flags ((reached_exact (length c.nodes) c.arrows r v q.0).1 q.1),
  ),
)
  where
    flags : List Bool
    flags = reached (length c.nodes) c.arrows r

-- T is what leaves it
leaving_above : (S : List ℕ) (j k : ℕ) (arrows : List Arrow) → j < k → Every (λ y. j < y) (map (λ (x : Numbered). x.number) (leaving S k arrows))
leaving_above S j k [] h = tt
leaving_above S j k (a ∷ arrows) h = on (among a.tail S) (leaving_above S j (suc k) arrows (omega arith))
  where
    on : (b : Bool) → Every (λ y. j < y) (map (λ (x : Numbered). x.number) (leaving S (suc k) arrows)) →
        Every (λ y. j < y) (map (λ (x : Numbered). x.number) (cond b (record { number = k; arrow = a } ∷ leaving S (suc k) arrows) (leaving S (suc k) arrows)))
    on true q = (h, q)
    on false q = q

leaving_ascending : (S : List ℕ) (k : ℕ) (arrows : List Arrow) → Ascending (map (λ (x : Numbered). x.number) (leaving S k arrows))
leaving_ascending S k [] = tt
leaving_ascending S k (a ∷ arrows) = on (among a.tail S) (leaving_ascending S (suc k) arrows)
  where
    on : (b : Bool) → Ascending (map (λ (x : Numbered). x.number) (leaving S (suc k) arrows)) →
        Ascending (map (λ (x : Numbered). x.number) (cond b (record { number = k; arrow = a } ∷ leaving S (suc k) arrows) (leaving S (suc k) arrows)))
    on true q = (leaving_above S k (suc k) arrows (omega arith), q)
    on false q = q

-- an arrow with its number, counted from k on
pub record Leaves (S : List ℕ) (k : ℕ) (arrows : List Arrow) (x : Numbered) : Type 0 where
  pub from : k ≤ x.number
  pub there : x.number < k + length arrows
  pub is : get_or arrows (x.number - k) lost ≡ x.arrow
  pub tail : In x.arrow.tail S

leaves_next : (S : List ℕ) (k : ℕ) (a : Arrow) (arrows : List Arrow) (x : Numbered) → Leaves S (suc k) arrows x → Leaves S k (a ∷ arrows) x
leaves_next S k a arrows x q =
    let e : x.number - k ≡ suc (x.number - suc k) = omega (arith, q.from) in
    record { from = omega (arith, q.from); there = omega (arith, q.there); is = ap (λ i. get_or (a ∷ arrows) i lost) e ∙ q.is; tail = q.tail }

leaves_first : (S : List ℕ) (k : ℕ) (a : Arrow) (arrows : List Arrow) → among a.tail S ≡ true → Leaves S k (a ∷ arrows) (record { number = k; arrow = a })
leaves_first S k a arrows h =
    let e : k - k ≡ 0 = omega arith in
    record { from = omega arith; there = omega arith; is = ap (λ i. get_or (a ∷ arrows) i lost) e; tail = among_in a.tail S h }

leaving_in : (S : List ℕ) (k : ℕ) (arrows : List Arrow) (x : Numbered) → In x (leaving S k arrows) → Leaves S k arrows x
leaving_in S k [] x i = absurd i
leaving_in S k (a ∷ arrows) x i = on (among a.tail S) refl (leaving_in S (suc k) arrows x) i
  where
    on : (b : Bool) → among a.tail S ≡ b → (In x (leaving S (suc k) arrows) → Leaves S (suc k) arrows x) →
        In x (cond b (record { number = k; arrow = a } ∷ leaving S (suc k) arrows) (leaving S (suc k) arrows)) → Leaves S k (a ∷ arrows) x
    on true e more (inl q) = subst (λ y. Leaves S k (a ∷ arrows) y) (sym q) (leaves_first S k a arrows e)
    on true e more (inr j) = leaves_next S k a arrows x (more j)
    on false e more j = leaves_next S k a arrows x (more j)

in_leaving : (S : List ℕ) (k : ℕ) (arrows : List Arrow) (x : Numbered) → Leaves S k arrows x → In x (leaving S k arrows)
in_leaving S k [] x q = absurd (omega (arith, q.from, q.there))
in_leaving S k (a ∷ arrows) x q = on (cases_eq x.number k) (in_leaving S (suc k) arrows x)
  where
    later : (b : Bool) → In x (leaving S (suc k) arrows) → In x (cond b (record { number = k; arrow = a } ∷ leaving S (suc k) arrows) (leaving S (suc k) arrows))
    later true i = inr i
    later false i = i

    on : (x.number ≡ k) ⊎ (x.number ≡ k → ⊥) → (Leaves S (suc k) arrows x → In x (leaving S (suc k) arrows)) → In x (leaving S k (a ∷ arrows))
    on (inl e) more =
        let z : x.number - k ≡ 0 = omega arith in
        let same : a ≡ x.arrow = sym (ap (λ i. get_or (a ∷ arrows) i lost) z) ∙ q.is in
        let t : among a.tail S ≡ true = ap (λ (y : Arrow). among y.tail S) same ∙ in_among x.arrow.tail S q.tail in
        subst (λ b. In x (cond b (record { number = k; arrow = a } ∷ leaving S (suc k) arrows) (leaving S (suc k) arrows))) (sym t)
        (inl (subst (λ y. x ≡ record { number = k; arrow = y }) (sym same) (ap (λ (i : ℕ). record { number = i; arrow = x.arrow }) e)))
    on (inr n) more =
        let z : x.number - k ≡ suc (x.number - suc k) = omega (arith, q.from) in
        later (among a.tail S)
        (more (record {
          from = omega (arith, q.from, n);
          there = omega (arith, q.there);
          is = sym (ap (λ i. get_or (a ∷ arrows) i lost) z) ∙ q.is;
          tail = q.tail;
        }))

pub arrows_exact : ArrowsExact
arrows_exact S arrows = (
  leaving_ascending S 0 arrows,
  λ x. (
    λ i.
        let q = leaving_in S 0 arrows x i in
        let e : x.number - 0 ≡ x.number = omega arith in
        (omega (arith, q.there), sym (ap (λ j. get_or arrows j lost) e) ∙ q.is, q.tail),
    λ q.
        let e : x.number - 0 ≡ x.number = omega arith in
        in_leaving S 0 arrows x (record { from = omega arith; there = omega (arith, q.0); is = ap (λ j. get_or arrows j lost) e ∙ q.1; tail = q.2 }),
  ),
)
