-- The rows of a course that a workspace holds. Assumes nothing.
use Rattle.std.proofs.Common.{◌≡◌, ℕ, suc, ◌<◌, Bool, true, false, cond, leb, List, [], ◌∷◌, map, length, get_or, Some, None, Ok, Err, vec_items, vec_len, Option, Result, refl, ap, arith}
use Rattle.std.proofs.lemmas.Bool.{and_from, lt-ltb, le-leb}
use Rattle.course.specs.declared.course.Arrow.{Arrow}
use Rattle.course.specs.declared.workspace.Workspace.{Workspace}
use Rattle.course.specs.Course.{Course}
use Rattle.course.specs.Ends.{inside}
use Rattle.course.specs.Reach.{ends, lost}
use Rattle.course.specs.View.{course_of}
use Rattle.rows.specs.declared.row.Row.{Row}
use Rattle.rows.specs.declared.row.RowsFault.{RowsFault}
use Rattle.rows.specs.declared.row.RowsFault.TheVariants.{Unfit, TooMany}
use Rattle.rows.specs.Listing.{fits, listing, Answers}
use Rattle.rows.specs.Rows.{rows_of}
use Rattle.view.specs.declared.fault.ViewFault.{ViewFault}
use Rattle.view.specs.declared.fault.ViewFault.TheVariants.{TooManyRows}
use Rattle.view.specs.View.{Picture, picture, listed, Answered}

all_inside : (n : ℕ) (arrows : List Arrow) → ((k : ℕ) → k < length arrows → (get_or arrows k lost).tail < n) →
    ((k : ℕ) → k < length arrows → (get_or arrows k lost).head < n) → inside n (map ends arrows) ≡ true
all_inside n [] tails heads = refl
all_inside n (a ∷ arrows) tails heads =
    and_from _ _ (and_from _ _ (lt-ltb a.tail n (tails 0 (omega arith))) (lt-ltb a.head n (heads 0 (omega arith))))
    (all_inside n arrows (λ k h. tails (suc k) (omega arith)) (λ k h. heads (suc k) (omega arith)))

-- a course fits the list of its rows, from each of its nodes
pub course_fits : (w : Workspace) (v : ℕ) → v < length (course_of w).nodes →
    fits (course_of w).arrows (length (course_of w).nodes) v ≡ true
course_fits w v h =
    let n : vec_len w.nodes ≡ length (vec_items w.nodes) = w.nodes.ok.0 in
    let a : vec_len w.arrows ≡ length (vec_items w.arrows) = w.arrows.ok.0 in
    and_from _ _ (le-leb (length (course_of w).nodes) 1024 (omega (arith, w.nodes_within)))
    (and_from _ _ (le-leb (length (course_of w).arrows) 2048 (omega (arith, w.arrows_within)))
    (and_from _ _ (lt-ltb v (length (course_of w).nodes) h)
    (all_inside (length (course_of w).nodes) (course_of w).arrows
    (λ k l. let t = w.tails k (omega arith) in omega arith)
    (λ k l. let t = w.heads k (omega arith) in omega arith))))

-- what the list of a course's rows tells, where they fit and where they are few
module _ (c : Course) (v : ℕ) (before : Option Picture) (rows : List Row) where
  told : Bool → Bool → Result (List Row) RowsFault
  told f t = cond f (cond t (Ok (rows_of c.arrows (length c.nodes) v)) (Err TooMany)) (Err Unfit)

  shown : Bool → Result Picture ViewFault
  shown t = cond t (Ok (picture c (rows_of c.arrows (length c.nodes) v) v)) (Err TooManyRows)

  taken_by : (f t : Bool) → f ≡ true → Answers (told f t) rows (Ok tt) → Answered (shown t) before (Some (picture c rows v)) (Ok tt)
  unfolding told shown
  taken_by true true e h = (refl, ap (λ (r : List Row). Some (picture c r v)) h.1)
  taken_by true false e h = absurd (let z : ◌≡◌ {A = ℕ} 0 1 = cc h.0 in omega arith)
  taken_by false t e h = absurd (let z : ◌≡◌ {A = ℕ} 0 1 = cc e in omega arith)

  refused_by : (f t : Bool) (e : RowsFault) (after : Option Picture) (r : Result (Unit {0}) ViewFault) → f ≡ true → Answers (told f t) rows (Err e) →
      r ≡ Err TooManyRows → after ≡ None → Answered (shown t) before after r
  unfolding told shown
  refused_by true true e after r p h is none = absurd (let z : ◌≡◌ {A = ℕ} 0 1 = cc h.0 in omega arith)
  refused_by true false e after r p h is none = (is, none)
  refused_by false t e after r p h is none = absurd (let z : ◌≡◌ {A = ℕ} 0 1 = cc p in omega arith)

  module _ (fit : fits c.arrows (length c.nodes) v ≡ true) where
    pub taken : Answers (listing c.arrows (length c.nodes) v) rows (Ok tt) → Answered (listed v c) before (Some (picture c rows v)) (Ok tt)
    unfolding listing listed told shown
    taken = taken_by (fits c.arrows (length c.nodes) v) (leb (length (rows_of c.arrows (length c.nodes) v)) 1024) fit

    pub refused : (e : RowsFault) (after : Option Picture) (r : Result (Unit {0}) ViewFault) → Answers (listing c.arrows (length c.nodes) v) rows (Err e) →
        r ≡ Err TooManyRows → after ≡ None → Answered (listed v c) before after r
    unfolding listing listed told shown
    refused e after r = refused_by (fits c.arrows (length c.nodes) v) (leb (length (rows_of c.arrows (length c.nodes) v)) 1024) e after r fit

-- a run's picture is told whatever was shown before
pub picture_told : (v : ℕ) (c : Course) (before other after : Option Picture) (r : Result (Unit {0}) ViewFault) →
    Answered (listed v c) before after r → Answered (listed v c) other after r
unfolding listed shown
picture_told v c before other after r = on (leb (length (rows_of c.arrows (length c.nodes) v)) 1024)
  where
    on : (t : Bool) → Answered (shown c v before [] t) before after r → Answered (shown c v before [] t) other after r
    on true h = h
    on false h = h
