-- The rows computed are the rows, by node and then by arrow, each once. Assumes nothing.
use Rattle.std.proofs.Common.{◌≡◌, ℕ, zero, suc, ◌+◌, ◌<◌, Bool, true, false, cond, not, ltb, List, [], ◌∷◌, ◌++◌, map, length, get_or, drop, filter, sym, refl, ap, ◌∙◌, subst, inl, inr, not-suc-le-zero, arith}
use Rattle.std.specs.List.{flat_map, AllByRecursion}
use Rattle.std.proofs.lemmas.List.{map-append, get_or-drop, drop-drop}
use Rattle.std.proofs.ByRecursion.{All-append, all_kept_by}
use Rattle.std.proofs.lemmas.Bool.{and_parts, and_from, not-true, not_from_false, ltb-true}
use Rattle.course.specs.declared.course.Arrow.{Arrow}
use Rattle.course.specs.Course.{is_blank_origin}
use Rattle.course.specs.Ends.{joins, inside}
use Rattle.walks.specs.Reach.{In, Reaches, stay, go, among, closure, from}
use Rattle.course.specs.Reach.{ends, lost}
use Rattle.rows.specs.declared.row.Row.{Row}
use Rattle.rows.specs.Rows.{blanks, Leaves, Shown, first, next, near, leads, row_of, rows_at, step, steps, shown}
use Rattle.rows.specs.RowsLaw.{Before, Ascending, RowsLaw}
use Rattle.walks.proofs.Reaching.{exact}
use Rattle.walks.proofs.Members.{in_map, of_map, in_joined, of_joined, in_kept, of_kept, in_from, numbers, of_numbers, in_numbers}

-- the pairs of a node and the arrows that its rows have
abbrev pub pairs_at : List Arrow → ℕ → List (ℕ × ℕ)
pairs_at arrows u = map (λ k. (u, k)) (numbers (leads (near arrows u)) 0 arrows)

abbrev pub row_at : List Arrow → ℕ × ℕ → Row
row_at arrows p = row_of p.0 (get_or arrows p.1 lost)

-- each row is that of its pair
numbered : (arrows : List Arrow) (p : Arrow → Bool) (u i : ℕ) (rest : List Arrow) → drop i arrows ≡ rest →
    map (row_of u) (filter p rest) ≡ map (row_at arrows) (map (λ k. (u, k)) (numbers p i rest))
numbered arrows p u i [] e = refl
numbered arrows p u i (a ∷ rest) e =
    let here : get_or arrows i lost ≡ a = sym (ap (λ k. get_or arrows k lost) (let z : i + 0 ≡ i = omega arith in z)) ∙ sym (get_or-drop i arrows 0 lost) ∙ ap (λ (l : List Arrow). get_or l 0 lost) e in
    let later : drop (suc i) arrows ≡ rest = ap (λ k. drop k arrows) (let z : suc i ≡ i + 1 = omega arith in z) ∙ sym (drop-drop 1 i arrows) ∙ ap (λ (l : List Arrow). drop 1 l) e in
    let ih : map (row_of u) (filter p rest) ≡ map (row_at arrows) (map (λ k. (u, k)) (numbers p (suc i) rest)) = numbered arrows p u (suc i) rest later in
    elim (p a) as (λ b. map (row_of u) (cond b (a ∷ filter p rest) (filter p rest)) ≡ map (row_at arrows) (map (λ k. (u, k)) (cond b (i ∷ numbers p (suc i) rest) (numbers p (suc i) rest))))
    [ true ↦ ap (λ (x : Arrow). row_of u x ∷ map (row_of u) (filter p rest)) (sym here) ∙ ap (λ (l : List Row). row_at arrows (u, i) ∷ l) ih | false ↦ ih ]

pub told_at : (arrows : List Arrow) (u : ℕ) → rows_at arrows u ≡ map (row_at arrows) (pairs_at arrows u)
unfolding rows_at
told_at arrows u = numbered arrows (leads (near arrows u)) u 0 arrows refl

pub told : (arrows : List Arrow) (us : List ℕ) → flat_map (rows_at arrows) us ≡ map (row_at arrows) (flat_map (pairs_at arrows) us)
told arrows [] = refl
told arrows (u ∷ us) =
    ap (λ (l : List Row). l ++ flat_map (rows_at arrows) us) (told_at arrows u)
    ∙ ap (λ (l : List Row). map (row_at arrows) (pairs_at arrows u) ++ l) (told arrows us)
    ∙ sym (map-append (row_at arrows) (pairs_at arrows u) (flat_map (pairs_at arrows) us))

-- an arrow leads on from u exactly where its number is among those of the pairs of u
leaves_of : (arrows : List Arrow) (u k : ℕ) → In k (numbers (leads (near arrows u)) 0 arrows) → Leaves arrows u k
leaves_of arrows u k h =
    let f = of_numbers (leads (near arrows u)) lost 0 k arrows h in
    let q : f.0 ≡ k = omega (arith, f.1) in
    let p = and_parts (not (is_blank_origin (get_or arrows f.0 lost).origin)) (among (get_or arrows f.0 lost).tail (near arrows u)) f.3 in
    subst (λ (z : ℕ). Leaves arrows u z) q
    (record { within = f.2; labelled = not-true _ p.0; reached = (exact (map ends (blanks arrows)) u (get_or arrows f.0 lost).tail).0 p.1 })

of_leaves : (arrows : List Arrow) (u k : ℕ) → Leaves arrows u k → In k (numbers (leads (near arrows u)) 0 arrows)
of_leaves arrows u k r =
    let z : 0 + k ≡ k = omega arith in
    subst (λ (n : ℕ). In n (numbers (leads (near arrows u)) 0 arrows)) z
    (in_numbers (leads (near arrows u)) lost 0 k arrows r.within
    (and_from _ _ (not_from_false _ r.labelled) ((exact (map ends (blanks arrows)) u (get_or arrows k lost).tail).1 r.reached)))

pub of_pairs : (arrows : List Arrow) (us : List ℕ) (u k : ℕ) → In (u, k) (flat_map (pairs_at arrows) us) → In u us × Leaves arrows u k
of_pairs arrows us u k i =
    let f = of_joined (pairs_at arrows) (u, k) us i in
    let g = of_map (λ j. (f.0, j)) (u, k) (numbers (leads (near arrows f.0)) 0 arrows) f.2 in
    let qu : f.0 ≡ u = sym (ap (λ (p : ℕ × ℕ). p.0) g.2) in
    let qk : g.0 ≡ k = sym (ap (λ (p : ℕ × ℕ). p.1) g.2) in
    (subst (λ (z : ℕ). In z us) qu f.1, subst (λ (z : ℕ). Leaves arrows z k) qu (subst (λ (z : ℕ). Leaves arrows f.0 z) qk (leaves_of arrows f.0 g.0 g.1)))

pub in_pairs : (arrows : List Arrow) (us : List ℕ) (u k : ℕ) → In u us → Leaves arrows u k → In (u, k) (flat_map (pairs_at arrows) us)
in_pairs arrows us u k i r =
    in_joined (pairs_at arrows) u (u, k) us i (in_map (λ j. (u, j)) k (numbers (leads (near arrows u)) 0 arrows) (of_leaves arrows u k r))

pub of_steps : (arrows : List Arrow) (n u w : ℕ) → In (u, w) (steps arrows n) → (k : ℕ) × Leaves arrows u k × (w ≡ (get_or arrows k lost).head)
of_steps arrows n u w i =
    let j = subst (λ (l : List Row). In (u, w) (map step l)) (told arrows (from 0 n)) i in
    let f = of_map step (u, w) (map (row_at arrows) (flat_map (pairs_at arrows) (from 0 n))) j in
    let g = of_map (row_at arrows) f.0 (flat_map (pairs_at arrows) (from 0 n)) f.1 in
    let q : (u, w) ≡ (g.0.0, (get_or arrows g.0.1 lost).head) = f.2 ∙ ap step g.2 in
    let r = of_pairs arrows (from 0 n) g.0.0 g.0.1 g.1 in
    (g.0.1, subst (λ (z : ℕ). Leaves arrows z g.0.1) (sym (ap (λ (p : ℕ × ℕ). p.0) q)) r.1, ap (λ (p : ℕ × ℕ). p.1) q)

pub in_steps : (arrows : List Arrow) (n u k : ℕ) → u < n → Leaves arrows u k → In (u, (get_or arrows k lost).head) (steps arrows n)
in_steps arrows n u k l r =
    let i = in_pairs arrows (from 0 n) u k (in_from 0 n u (omega arith) (omega arith)) r in
    subst (λ (l : List Row). In (u, (get_or arrows k lost).head) (map step l)) (sym (told arrows (from 0 n)))
    (in_map step (row_at arrows (u, k)) (map (row_at arrows) (flat_map (pairs_at arrows) (from 0 n))) (in_map (row_at arrows) (u, k) (flat_map (pairs_at arrows) (from 0 n)) i))

-- what the steps reach is shown
pub shown_of : (arrows : List Arrow) (n root : ℕ) {v : ℕ} → Reaches (steps arrows n) root v → Shown arrows root v
shown_of arrows n root stay = first
shown_of arrows n root (go {v} {w} r j) =
    let s = of_steps arrows n v w j in
    subst (λ (z : ℕ). Shown arrows root z) (sym s.2) (next (shown_of arrows n root r) s.1)

pub ends_at : (n : ℕ) (arrows : List Arrow) (k : ℕ) (d : Arrow) → inside n (map ends arrows) ≡ true → k < length arrows → ((get_or arrows k d).tail < n) × ((get_or arrows k d).head < n)
ends_at n [] k d h l = absurd (not-suc-le-zero l)
ends_at n (a ∷ arrows) zero d h l =
    let p = and_parts (ltb a.tail n) (ltb a.head n) (and_parts (joins n (ends a)) (inside n (map ends arrows)) h).0 in
    (ltb-true a.tail n p.0, ltb-true a.head n p.1)
ends_at n (a ∷ arrows) (suc k) d h l = ends_at n arrows k d (and_parts (joins n (ends a)) (inside n (map ends arrows)) h).1 (omega arith)

-- what is shown is reached by the steps, where the root and the heads are among the nodes
pub of_shown : (arrows : List Arrow) (n root : ℕ) → ((k : ℕ) → k < length arrows → (get_or arrows k lost).head < n) → root < n → {v : ℕ} → Shown arrows root v → (v < n) × Reaches (steps arrows n) root v
of_shown arrows n root w t first = (t, stay)
of_shown arrows n root w t (next {u} {k} s r) =
    let ih = of_shown arrows n root w t s in
    (w k r.within, go ih.1 (in_steps arrows n u k ih.0 r))

pub in_shown : (arrows : List Arrow) (n root u : ℕ) → u < n → Reaches (steps arrows n) root u → In u (shown arrows n root)
unfolding shown
in_shown arrows n root u l r =
    in_kept (λ v. among v (closure (steps arrows n) (root ∷ []))) u (from 0 n) (in_from 0 n u (omega arith) (omega arith)) ((exact (steps arrows n) root u).1 r)

pub of_in_shown : (arrows : List Arrow) (n root u : ℕ) → In u (shown arrows n root) → Reaches (steps arrows n) root u
unfolding shown
of_in_shown arrows n root u i =
    (exact (steps arrows n) root u).0 (of_kept (λ v. among v (closure (steps arrows n) (root ∷ []))) u (from 0 n) i).1

-- in order
abbrev Rising : List ℕ → Type 0
Rising [] = Unit {0}
Rising (u ∷ us) = AllByRecursion (λ v. u < v) us × Rising us

above_from : (i j n : ℕ) → i < j → AllByRecursion (λ v. i < v) (from j n)
above_from i j zero h = tt
above_from i j (suc n) h = (h, above_from i (suc j) n (omega arith))

rising_from : (i n : ℕ) → Rising (from i n)
rising_from i zero = tt
rising_from i (suc n) = (above_from i (suc i) n (omega arith), rising_from (suc i) n)

rising_kept : (p : ℕ → Bool) (us : List ℕ) → Rising us → Rising (filter p us)
rising_kept p [] r = tt
rising_kept p (u ∷ us) r =
    elim (p u) as (λ b. Rising (cond b (u ∷ filter p us) (filter p us)))
    [ true ↦ (all_kept_by p (λ v. u < v) us r.0, rising_kept p us r.1) | false ↦ rising_kept p us r.1 ]

above_numbers : {X : Type 0} (p : X → Bool) (xs : List X) (j i : ℕ) → j < i → AllByRecursion (λ k. j < k) (numbers p i xs)
above_numbers p [] j i h = tt
above_numbers p (x ∷ xs) j i h =
    let k : AllByRecursion (λ n. j < n) (numbers p (suc i) xs) = above_numbers p xs j (suc i) (omega arith) in
    elim (p x) as (λ b. AllByRecursion (λ n. j < n) (cond b (i ∷ numbers p (suc i) xs) (numbers p (suc i) xs))) [ true ↦ (h, k) | false ↦ k ]

rising_numbers : {X : Type 0} (p : X → Bool) (xs : List X) (i : ℕ) → Rising (numbers p i xs)
rising_numbers p [] i = tt
rising_numbers p (x ∷ xs) i =
    let k : Rising (numbers p (suc i) xs) = rising_numbers p xs (suc i) in
    elim (p x) as (λ b. Rising (cond b (i ∷ numbers p (suc i) xs) (numbers p (suc i) xs))) [ true ↦ (above_numbers p xs i (suc i) (omega arith), k) | false ↦ k ]

later_arrows : (u k : ℕ) (ks : List ℕ) → AllByRecursion (λ n. k < n) ks → AllByRecursion (Before (u, k)) (map (λ j. (u, j)) ks)
later_arrows u k [] h = tt
later_arrows u k (x ∷ ks) h = (inr (refl, h.0), later_arrows u k ks h.1)

later_node : (u k v : ℕ) (ks : List ℕ) → u < v → AllByRecursion (Before (u, k)) (map (λ j. (v, j)) ks)
later_node u k v [] h = tt
later_node u k v (x ∷ ks) h = (inl h, later_node u k v ks h)

later_nodes : (arrows : List Arrow) (u k : ℕ) (us : List ℕ) → AllByRecursion (λ v. u < v) us → AllByRecursion (Before (u, k)) (flat_map (pairs_at arrows) us)
later_nodes arrows u k [] h = tt
later_nodes arrows u k (v ∷ us) h =
    All-append (Before (u, k)) (pairs_at arrows v) (flat_map (pairs_at arrows) us) (later_node u k v (numbers (leads (near arrows v)) 0 arrows) h.0) (later_nodes arrows u k us h.1)

ascending_node : (arrows : List Arrow) (u : ℕ) (us ks : List ℕ) → AllByRecursion (λ v. u < v) us → Ascending (flat_map (pairs_at arrows) us) → Rising ks → Ascending (map (λ j. (u, j)) ks ++ flat_map (pairs_at arrows) us)
ascending_node arrows u us [] h o r = o
ascending_node arrows u us (k ∷ ks) h o r =
    (All-append (Before (u, k)) (map (λ j. (u, j)) ks) (flat_map (pairs_at arrows) us) (later_arrows u k ks r.0) (later_nodes arrows u k us h), ascending_node arrows u us ks h o r.1)

ascending : (arrows : List Arrow) (us : List ℕ) → Rising us → Ascending (flat_map (pairs_at arrows) us)
ascending arrows [] r = tt
ascending arrows (u ∷ us) r =
    ascending_node arrows u us (numbers (leads (near arrows u)) 0 arrows) r.0 (ascending arrows us r.1) (rising_numbers (leads (near arrows u)) arrows 0)

rising_shown : (arrows : List Arrow) (n root : ℕ) → Rising (shown arrows n root)
unfolding shown
rising_shown arrows n root = rising_kept (λ v. among v (closure (steps arrows n) (root ∷ []))) (from 0 n) (rising_from 0 n)

pub rows_law : RowsLaw
rows_law arrows n root w t =
    record {
      pairs = flat_map (pairs_at arrows) (shown arrows n root);
      ascending = ascending arrows (shown arrows n root) (rising_shown arrows n root);
      exact = λ u k. (
        λ i.
            let f = of_pairs arrows (shown arrows n root) u k i in
            record { shown = shown_of arrows n root (of_in_shown arrows n root u f.0); leaves = f.1 },
        λ s.
            let f = of_shown arrows n root (λ j l. (ends_at n arrows j lost w l).1) t s.shown in
            in_pairs arrows (shown arrows n root) u k (in_shown arrows n root u f.0 f.1) s.leaves,
      );
      told = told arrows (shown arrows n root);
    }
