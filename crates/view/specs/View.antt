-- What a view shows, and how it is made. Assumes nothing.
--
--   Picture         what a view shows: the course, its rows, and the node that is shown first
--   picture c rows v    such a picture from its parts
--   shown_at c rows o    the picture with the first node of o; None where there is none
--   seen v          what the view v shows; None where it shows nothing
--   course_in, rows_in, node_in    the course, the rows and the first node of what is shown; the empty course and no rows
--                   where nothing is
--   listed v c      the picture of the course c with the node v, where there are at most 1,024 rows; or else the refusal
--   pictured run    the picture of a run that is done; or else the entry that does not fit
--   long g n ls ks  whether the labels ls are as many as the arrows of the graph g, and the constants ks at least n
--   showing         what there is to show of a graph under the expression e with n constants: the picture of the run that
--                   asks the labels themselves whether they are alike; or else the refusal, short tables first
--   Answered told before after r    the answer r to a call that leads from what was shown before to what is shown after:
--                   it is what was told. Short tables change nothing; every other refusal leaves a view of nothing
use Rattle.std.specs.Prelude.{◌≡◌, ℕ, Bool, cond, ◌&&◌, List, [], length, Some, None, Ok, Err, vec_items, Option, Result, nat_le}
use Rattle.expression.specs.Forms.{Tree}
use Rattle.course.specs.Course.{Course, Run, done, full}
use Rattle.course.specs.Forward.{forward}
use Rattle.course.specs.Opening.{no_course}
use Rattle.course.specs.Sources.{Graph}
use Rattle.course.specs.View.{course_of}
use Rattle.rows.specs.declared.row.Row.{Row}
use Rattle.rows.specs.Rows.{rows_of}
use Rattle.laws.specs.Labelling.{by_label}
use Rattle.view.specs.declared.fault.ViewFault.{ViewFault}
use Rattle.view.specs.declared.fault.ViewFault.TheVariants.{ShortTable, Full, TooManyRows}
use Rattle.view.specs.declared.view.View.{View}

pub record Picture : Type 0 where
  pub course : Course
  pub rows : List Row
  pub node : ℕ

abbrev pub picture : Course → List Row → ℕ → Picture
picture c rows v = record { course = c; rows = rows; node = v }

abbrev pub shown_at : Course → List Row → Option ℕ → Option Picture
shown_at c rows None = None
shown_at c rows (Some v) = Some (picture c rows v)

abbrev pub seen : View → Option Picture
seen v = shown_at (course_of v.workspace) (vec_items v.rows.rows) v.shown

abbrev pub course_in : Option Picture → Course
course_in None = no_course
course_in (Some p) = p.course

abbrev pub rows_in : Option Picture → List Row
rows_in None = []
rows_in (Some p) = p.rows

abbrev pub node_in : Option Picture → Option ℕ
node_in None = None
node_in (Some p) = Some p.node

unfoldable pub listed : ℕ → Course → Result Picture ViewFault
listed v c =
    let rows = rows_of c.arrows (length c.nodes) v in
    cond (nat_le (length rows) 1024) (Ok (picture c rows v)) (Err TooManyRows)

abbrev pub pictured : Run ℕ → Result Picture ViewFault
pictured (done v c) = listed v c
pictured (full e) = Err (Full e)

abbrev pub long : {L : Type 0} → Graph → ℕ → List L → List L → Bool
long g n labels constants = nat_le (length g.arrows) (length labels) && nat_le n (length constants)

abbrev pub showing : {L : Type 0} → (L → L → Bool) → Graph → ℕ → Tree → List L → List L → Result Picture ViewFault
showing alike g n e labels constants =
    cond (long g n labels constants) (pictured (forward (by_label alike labels constants) g e)) (Err ShortTable)

abbrev pub Answered : Result Picture ViewFault → Option Picture → Option Picture → Result (Unit {0}) ViewFault → Type 0
Answered (Ok p) before after r = (r ≡ Ok tt) × (after ≡ Some p)
Answered (Err ShortTable) before after r = (r ≡ Err ShortTable) × (after ≡ before)
Answered (Err (Full e)) before after r = (r ≡ Err (Full e)) × (after ≡ None)
Answered (Err TooManyRows) before after r = (r ≡ Err TooManyRows) × (after ≡ None)
