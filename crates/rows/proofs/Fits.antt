-- What holds of arrows that fit: their ends are in reach of the marks, and the marks of what is shown are exact. Assumes
-- nothing.
use Rattle.std.proofs.Common.{◌≡◌, ℕ, zero, suc, ◌+◌, ◌<◌, ◌≤◌, Bool, true, false, ◌&&◌, ltb, leb, List, [], ◌∷◌, map, length, get_or, is_err, Ok, Err, filter, Result, sym, refl, ap, ◌∙◌, subst, arith}
use Rattle.std.specs.List.{flat_map as joined, list_all, AllByRecursion}
use Rattle.std.proofs.lemmas.Bool.{and_parts, leb-true, ltb-true, lt-leb, le-leb, cond-true, cond-false, both_ways}
use Rattle.course.specs.declared.course.Arrow.{Arrow}
use Rattle.course.specs.Ends.{joins, inside}
use Rattle.walks.specs.Reach.{among, closure, from, lead}
use Rattle.course.specs.Reach.{ends, lost}
use Rattle.rows.specs.Links.{none, Fit}
use Rattle.rows.specs.declared.row.Row.{Row}
use Rattle.rows.specs.declared.row.RowsFault.{RowsFault}
use Rattle.rows.specs.declared.row.RowsFault.TheVariants.{Unfit, TooMany}
use Rattle.rows.specs.Growing.{Grown}
use Rattle.rows.specs.Listing.{fits, listing, Answers}
use Rattle.rows.specs.Rows.{steps, shown, rows_at, rows_of}
use Rattle.rows.proofs.Adding.{rows_from}
use Rattle.rows.proofs.Heading.{kept_alike}
use Rattle.walks.proofs.Reaching.{exact}
use Rattle.rows.proofs.Showing.{ends_at, shown_of, of_shown}
use Rattle.walks.proofs.Walking.{alike, lead_at}

-- the test of the ends, as `all` computes it
pub inside_list_all : (n : ℕ) (arrows : List Arrow) → inside n (map ends arrows) ≡ list_all (λ a. joins n (ends a)) arrows
inside_list_all n [] = refl
inside_list_all n (a ∷ arrows) = ap (λ b. joins n (ends a) && b) (inside_list_all n arrows)

-- the parts of the whole test
pub record Fitting (arrows : List Arrow) (n root : ℕ) : Type 0 where
  pub nodes : n ≤ 1024
  pub count : length arrows ≤ 2048
  pub within : root < n
  pub joined : inside n (map ends arrows) ≡ true

pub fitting : (arrows : List Arrow) (n root : ℕ) → fits arrows n root ≡ true → Fitting arrows n root
fitting arrows n root h =
    let p = and_parts (leb n 1024) (leb (length arrows) 2048 && (ltb root n && inside n (map ends arrows))) h in
    let q = and_parts (leb (length arrows) 2048) (ltb root n && inside n (map ends arrows)) p.1 in
    let r = and_parts (ltb root n) (inside n (map ends arrows)) q.1 in
    record { nodes = leb-true n 1024 p.0; count = leb-true (length arrows) 2048 q.0; within = ltb-true root n r.0; joined = r.1 }

pub fit_of : (arrows : List Arrow) (n root : ℕ) → fits arrows n root ≡ true → Fit arrows
fit_of arrows n root h =
    let f = fitting arrows n root h in
    record {
      count = f.count;
      tails = λ k l. omega (arith, (ends_at n arrows k none f.joined l).0, f.nodes);
      heads = λ k l. omega (arith, (ends_at n arrows k none f.joined l).1, f.nodes);
    }

all_from : (P : ℕ → Type 0) (i n : ℕ) → ((v : ℕ) → v < i + n → P v) → AllByRecursion P (from i n)
all_from P i zero h = tt
all_from P i (suc n) h = (h i (omega arith), all_from P (suc i) n (λ v l. h v (omega arith)))

-- the marks of what is shown, told with any number of nodes
pub shown_marked : (arrows : List Arrow) (n root : ℕ) (m : List Bool) → fits arrows n root ≡ true → m ≡ lead 1024 (steps arrows 1024) root → filter (λ v. get_or m v false) (from 0 n) ≡ shown arrows n root
unfolding shown
shown_marked arrows n root m h e =
    let f = fitting arrows n root h in
    let heads : (k : ℕ) → k < length arrows → (get_or arrows k lost).head < n = λ k l. (ends_at n arrows k lost f.joined l).1 in
    let far : (k : ℕ) → k < length arrows → (get_or arrows k lost).head < 1024 = λ k l. omega (arith, heads k l, f.nodes) in
    let to : (v : ℕ) → v < n → get_or m v false ≡ among v (closure (steps arrows n) (root ∷ [])) =
    λ v l.
    ap (λ (z : List Bool). get_or z v false) e ∙ lead_at 1024 (steps arrows 1024) root v (omega (arith, f.nodes))
    ∙ alike (among v (closure (steps arrows 1024) (root ∷ []))) (among v (closure (steps arrows n) (root ∷ [])))
    (λ q. (exact (steps arrows n) root v).1 (of_shown arrows n root heads f.within (shown_of arrows 1024 root ((exact (steps arrows 1024) root v).0 q))).1)
    (λ q. (exact (steps arrows 1024) root v).1 (of_shown arrows 1024 root far (omega (arith, f.within, f.nodes)) (shown_of arrows n root ((exact (steps arrows n) root v).0 q))).1) in
    kept_alike (λ v. get_or m v false) (λ v. among v (closure (steps arrows n) (root ∷ []))) (from 0 n)
    (all_from (λ v. get_or m v false ≡ among v (closure (steps arrows n) (root ∷ []))) 0 n (λ v l. to v (omega arith)))

pub rows_shown : (arrows : List Arrow) (n root : ℕ) (m : List Bool) → fits arrows n root ≡ true → m ≡ lead 1024 (steps arrows 1024) root → rows_from arrows m 0 n ≡ rows_of arrows n root
rows_shown arrows n root m h e = ap (joined (rows_at arrows)) (shown_marked arrows n root m h e)

-- what a call answers
module _ (arrows : List Arrow) (n root : ℕ) where
  unfit_is : fits arrows n root ≡ false → listing arrows n root ≡ Err Unfit
  unfolding listing
  unfit_is h = cond-false (fits arrows n root) _ _ h

  few_is : fits arrows n root ≡ true → length (rows_of arrows n root) ≤ 1024 → listing arrows n root ≡ Ok (rows_of arrows n root)
  unfolding listing
  few_is h l = cond-true (fits arrows n root) _ _ h ∙ cond-true (leb (length (rows_of arrows n root)) 1024) _ _ (le-leb _ 1024 l)

  many_is : fits arrows n root ≡ true → 1024 < length (rows_of arrows n root) → listing arrows n root ≡ Err TooMany
  unfolding listing
  many_is h l = cond-true (fits arrows n root) _ _ h ∙ cond-false (leb (length (rows_of arrows n root)) 1024) _ _ (lt-leb _ 1024 l)

  pub unfit_told : (rows : List Row) → fits arrows n root ≡ false → rows ≡ [] → Answers (listing arrows n root) rows (Err Unfit)
  unfit_told rows h e = subst (λ (t : Result (List Row) RowsFault). Answers t rows (Err Unfit)) (sym (unfit_is h)) (refl, e)

  pub many_told : (rows after : List Row) (r : Result (Unit {0}) RowsFault) → fits arrows n root ≡ true → Grown [] (rows_of arrows n root) after r → is_err r ≡ true → rows ≡ [] → Answers (listing arrows n root) rows r
  many_told rows after (Ok u) h g x e = absurd (both_ways false refl x)
  many_told rows after (Err f) h g x e = subst (λ (t : Result (List Row) RowsFault). Answers t rows (Err f)) (sym (many_is h g.1)) (ap Err g.0, e)

  pub few_told : (after : List Row) (r : Result (Unit {0}) RowsFault) → fits arrows n root ≡ true → Grown [] (rows_of arrows n root) after r → is_err r ≡ false → Answers (listing arrows n root) after r
  few_told after (Ok u) h g x =
      subst (λ (t : Result (List Row) RowsFault). Answers t after (Ok u)) (sym (few_is h (subst (λ (l : List Row). length l ≤ 1024) g.0 g.1))) (refl, g.0)
  few_told after (Err f) h g x = absurd (both_ways true x refl)
