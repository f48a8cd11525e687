-- The heads of the arrows that lead on from a node are those of its rows. Assumes nothing.
use Rattle.std.proofs.Common.{◌≡◌, ℕ, ◌+◌, ◌<◌, ◌≤◌, Bool, true, false, cond, not, ◌&&◌, ◌↔◌, List, [], ◌∷◌, map, length, get_or, drop, filter, sym, refl, ap, ◌∙◌, subst, ⊎_elim, arith}
use Rattle.std.specs.List.{flat_map, AllByRecursion}
use Rattle.std.proofs.lemmas.List.{at_drop_more, at_drop_all}
use Rattle.std.proofs.ByRecursion.{All-from_get_or}
use Rattle.std.proofs.lemmas.Bool.{and_parts, cond-true, cond-false}
use Rattle.course.specs.declared.course.Arrow.{Arrow}
use Rattle.course.specs.Course.{is_blank_origin}
use Rattle.walks.specs.Reach.{In, among, from, lead, Inside}
use Rattle.walks.specs.Visits.{Visiting, visit_one, visit_each}
use Rattle.walks.proofs.Members.{in_map, of_map, in_joined, of_joined, of_kept, in_from, place_of}
use Rattle.walks.proofs.Reaching.{exact, reached_from}
use Rattle.walks.proofs.Walking.{lead_at}
use Rattle.course.specs.Reach.{ends}
use Rattle.rows.specs.declared.row.Row.{Row}
use Rattle.rows.specs.Heads.{leads_by, heads_by, rows_by}
use Rattle.rows.specs.Links.{none, Fit}
use Rattle.rows.specs.Rows.{blanks, near, leads, row_of, rows_at, step, steps}

-- the heads of the arrows from the number k on
module _ (near : List Bool) (arrows : List Arrow) (k : ℕ) (s : Visiting) (l : k < length arrows) where
  pub heads_yes : leads_by near (get_or arrows k none) ≡ true →
      visit_each (heads_by near (drop k arrows)) s ≡ visit_each (heads_by near (drop (k + 1) arrows)) (visit_one (get_or arrows k none).head s)
  heads_yes y =
      ap (λ (vs : List ℕ). visit_each vs s) (at_drop_more (heads_by near) arrows k none l ∙ ap (map (λ (a : Arrow). a.head)) (cond-true (leads_by near (get_or arrows k none)) _ _ y))

  pub heads_no : leads_by near (get_or arrows k none) ≡ false →
      visit_each (heads_by near (drop k arrows)) s ≡ visit_each (heads_by near (drop (k + 1) arrows)) s
  heads_no y =
      ap (λ (vs : List ℕ). visit_each vs s) (at_drop_more (heads_by near) arrows k none l ∙ ap (map (λ (a : Arrow). a.head)) (cond-false (leads_by near (get_or arrows k none)) _ _ y))

pub heads_end : (near : List Bool) (arrows : List Arrow) (k : ℕ) (s : Visiting) → length arrows ≤ k → visit_each (heads_by near (drop k arrows)) s ≡ s
heads_end near arrows k s l = ap (λ (vs : List ℕ). visit_each vs s) (at_drop_all (heads_by near) arrows k l)

-- two tests that agree on every element keep the same
pub kept_alike : {X : Type 0} (p q : X → Bool) (xs : List X) → AllByRecursion (λ x. p x ≡ q x) xs → filter p xs ≡ filter q xs
kept_alike p q [] h = refl
kept_alike p q (x ∷ xs) h =
    ap (λ b. cond b (x ∷ filter p xs) (filter p xs)) h.0 ∙ ap (λ (l : List _). cond (q x) (x ∷ l) l) (kept_alike p q xs h.1)

-- both ends of an arrow are below 1,024
ends_below : (arrows : List Arrow) (a : Arrow) → Fit arrows → In a arrows → (a.tail < 1024) × (a.head < 1024)
ends_below arrows a f i =
    let k = place_of a arrows none i in
    (subst (λ (x : Arrow). x.tail < 1024) k.2 (f.tails k.0 k.1), subst (λ (x : Arrow). x.head < 1024) k.2 (f.heads k.0 k.1))

blanks_inside : (arrows : List Arrow) → Fit arrows → Inside 1024 (map ends (blanks arrows))
blanks_inside arrows f =
    record {
      ends = λ v w i.
          let a = of_map ends (v, w) (blanks arrows) i in
          let l = ends_below arrows a.0 f (of_kept (λ (x : Arrow). is_blank_origin x.origin) a.0 arrows a.1).0 in
          (omega (arith, l.0, ap (λ (x : ℕ × ℕ). x.0) a.2), omega (arith, l.1, ap (λ (x : ℕ × ℕ). x.1) a.2));
    }

leads_alike : (arrows : List Arrow) (v : ℕ) (a : Arrow) → a.tail < 1024 → leads_by (lead 1024 (map ends (blanks arrows)) v) a ≡ leads (near arrows v) a
leads_alike arrows v a l = ap (λ b. not (is_blank_origin a.origin) && b) (lead_at 1024 (map ends (blanks arrows)) v a.tail l)

pub kept_leads : (arrows : List Arrow) (v : ℕ) → Fit arrows → filter (leads_by (lead 1024 (map ends (blanks arrows)) v)) arrows ≡ filter (leads (near arrows v)) arrows
kept_leads arrows v f =
    kept_alike (leads_by (lead 1024 (map ends (blanks arrows)) v)) (leads (near arrows v)) arrows
    (All-from_get_or (λ a. leads_by (lead 1024 (map ends (blanks arrows)) v) a ≡ leads (near arrows v) a) arrows none (λ k l. leads_alike arrows v (get_or arrows k none) (f.tails k l)))

-- the rows told by marks
pub rows_marked : (arrows : List Arrow) (v : ℕ) (m : List Bool) → Fit arrows → m ≡ lead 1024 (map ends (blanks arrows)) v → rows_by m v arrows ≡ rows_at arrows v
unfolding rows_at
rows_marked arrows v m f e = ap (λ (z : List Bool). rows_by z v arrows) e ∙ ap (map (row_of v)) (kept_leads arrows v f)

row_node : (arrows : List Arrow) (v : ℕ) (r : Row) → In r (rows_at arrows v) → r.node ≡ v
unfolding rows_at
row_node arrows v r i = ap (λ (x : Row). x.node) (of_map (row_of v) r (filter (leads (near arrows v)) arrows) i).2

map_map : {X Y Z : Type 0} (f : X → Y) (g : Y → Z) (xs : List X) → map g (map f xs) ≡ map (λ x. g (f x)) xs
map_map f g [] = refl
map_map f g (x ∷ xs) = ap (λ l. g (f x) ∷ l) (map_map f g xs)

-- a row is that of an arrow, and of a node below 1,024
row_below : (arrows : List Arrow) (v : ℕ) (r : Row) → Fit arrows → In r (rows_at arrows v) → (v < 1024) × (r.head < 1024)
unfolding rows_at
row_below arrows v r f i =
    let a = of_map (row_of v) r (filter (leads (near arrows v)) arrows) i in
    let k = of_kept (leads (near arrows v)) a.0 arrows a.1 in
    let l = ends_below arrows a.0 f k.0 in (
      ⊎_elim (λ e. subst (λ (x : ℕ). x < 1024) e l.0) (λ z. z)
          (reached_from 1024 (map ends (blanks arrows)) v a.0.tail (blanks_inside arrows f)
          ((exact (map ends (blanks arrows)) v a.0.tail).0 (and_parts (not (is_blank_origin a.0.origin)) (among a.0.tail (near arrows v)) k.1).1)),
      omega (arith, l.1, ap (λ (x : Row). x.head) a.2),
    )

-- the heads of the arrows that lead on from v are exactly what the rows of v lead to
module _ (arrows : List Arrow) (v : ℕ) (m : List Bool) (f : Fit arrows) (e : m ≡ lead 1024 (map ends (blanks arrows)) v) where
  heads_of_rows : heads_by m arrows ≡ map (λ (r : Row). r.head) (rows_at arrows v)
  heads_of_rows = sym (map_map (row_of v) (λ (r : Row). r.head) (filter (leads_by m) arrows)) ∙ ap (map (λ (r : Row). r.head)) (rows_marked arrows v m f e)

  heads_in : (w : ℕ) → In (v, w) (steps arrows 1024) → In w (heads_by m arrows)
  heads_in w i =
      let p = of_map step (v, w) (flat_map (rows_at arrows) (from 0 1024)) i in
      let q = of_joined (rows_at arrows) p.0 (from 0 1024) p.1 in
      let node : q.0 ≡ v = sym (row_node arrows q.0 p.0 q.2) ∙ sym (ap (λ (x : ℕ × ℕ). x.0) p.2) in
      subst (λ (l : List ℕ). In w l) (sym heads_of_rows)
      (subst (λ (x : ℕ). In x (map (λ (r : Row). r.head) (rows_at arrows v))) (sym (ap (λ (x : ℕ × ℕ). x.1) p.2))
      (in_map (λ (r : Row). r.head) p.0 (rows_at arrows v) (subst (λ (x : ℕ). In p.0 (rows_at arrows x)) node q.2)))

  heads_of : (w : ℕ) → In w (heads_by m arrows) → In (v, w) (steps arrows 1024)
  heads_of w i =
      let p = of_map (λ (r : Row). r.head) w (rows_at arrows v) (subst (λ (l : List ℕ). In w l) heads_of_rows i) in
      let l = (row_below arrows v p.0 f p.1).0 in
      let j = in_map step p.0 (flat_map (rows_at arrows) (from 0 1024)) (in_joined (rows_at arrows) v p.0 (from 0 1024) (in_from 0 1024 v (omega arith) (omega arith)) p.1) in
      subst (λ (x : ℕ). In (x, w) (steps arrows 1024)) (row_node arrows v p.0 p.1) (subst (λ (x : ℕ). In (p.0.node, x) (steps arrows 1024)) (sym p.2) j)

  pub heads_exact : (w : ℕ) → In w (heads_by m arrows) ↔ In (v, w) (steps arrows 1024)
  heads_exact w = (heads_of w, heads_in w)

-- both ends of every step are below 1,024
pub steps_inside : (arrows : List Arrow) → Fit arrows → Inside 1024 (steps arrows 1024)
steps_inside arrows f =
    record {
      ends = λ v w i.
          let p = of_map step (v, w) (flat_map (rows_at arrows) (from 0 1024)) i in
          let q = of_joined (rows_at arrows) p.0 (from 0 1024) p.1 in
          let l = row_below arrows q.0 p.0 f q.2 in
          (omega (arith, l.0, row_node arrows q.0 p.0 q.2, ap (λ (x : ℕ × ℕ). x.0) p.2), omega (arith, l.1, ap (λ (x : ℕ × ℕ). x.1) p.2));
    }
