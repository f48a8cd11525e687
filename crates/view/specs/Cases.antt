-- The worked cases, in one list: those of the expressions, the courses and the rows, and the views of two small cabinets
-- with text labels. Assumes nothing.
--
--   alike_texts            whether two text labels are one
--   labels_p, constants_p  the labels of cabinet P: North, Loop7, Loop8, and the constant Loop8
--   labels_q, constants_q  those of cabinet Q: North, and the constant Site
--   rows_p                 node 3 to 6 North; node 6 to 8 Loop7
--   rows_q                 node 0 to 1 North; node 3 to 1 North; node 3 to 0 Site
--   viewed_p, viewed_q     what the two cabinets show
--   viewed_alone           what one node without arrows shows under the source's root
--   course_alone           its course
--   WorkedCases            the list
use Rattle.std.specs.Prelude.{◌≡◌, Bool, List, [], ◌∷◌, Ok, Err, codes, Result}
use Rattle.kinds.specs.declared.text.TextLabel.{TextLabel}
use Rattle.kinds.specs.Texts.{bytes_of, equal, label_of}
use Rattle.expression.specs.declared.form.Form.TheVariants.{Graph as FormGraph}
use Rattle.expression.specs.Cases.{Worked}
use Rattle.expression.specs.Forms.{tree_at}
use Rattle.course.specs.declared.course.Origin.TheVariants.{Source, Constant}
use Rattle.course.specs.Course.{Course}
use Rattle.course.specs.Sources.{graph}
use Rattle.rows.specs.declared.row.Row.{Row}
use Rattle.rows.specs.RowsCases.{row, rows_in, parallel, united, alone}
use Rattle.laws.specs.Cabinets.{node, frame, cabinet_p, view_p, course_p, cabinet_q, view_q, course_q, WorkedCourses}
use Rattle.view.specs.declared.fault.ViewFault.{ViewFault}
use Rattle.view.specs.declared.fault.ViewFault.TheVariants.{ShortTable}
use Rattle.view.specs.View.{Picture, picture, showing}

abbrev pub alike_texts : TextLabel → TextLabel → Bool
alike_texts s t = equal (bytes_of s) (bytes_of t)

abbrev pub labels_p : List TextLabel
labels_p = label_of (codes "North") ∷ label_of (codes "Loop7") ∷ label_of (codes "Loop8") ∷ []

abbrev pub constants_p : List TextLabel
constants_p = label_of (codes "Loop8") ∷ []

abbrev pub labels_q : List TextLabel
labels_q = label_of (codes "North") ∷ []

abbrev pub constants_q : List TextLabel
constants_q = label_of (codes "Site") ∷ []

abbrev pub rows_p : List Row
rows_p = row 3 6 (Source 0) 1 1 ∷ row 6 8 (Source 1) 1 2 ∷ []

abbrev pub rows_q : List Row
rows_q = row 0 1 (Source 0) 64 0 ∷ row 3 1 (Source 0) 64 0 ∷ row 3 0 (Constant 0) 2 0 ∷ []

unfoldable pub viewed_p : List TextLabel → List TextLabel → Result Picture ViewFault
viewed_p labels constants = showing alike_texts cabinet_p 1 view_p labels constants

unfoldable pub viewed_q : List TextLabel → List TextLabel → Result Picture ViewFault
viewed_q labels constants = showing alike_texts cabinet_q 1 view_q labels constants

unfoldable pub viewed_alone : Result Picture ViewFault
viewed_alone = showing alike_texts (graph 1 []) 0 (tree_at (FormGraph 0 ∷ []) 0) [] []

abbrev pub course_alone : Course
course_alone = record { nodes = node 64 0 0 0 ∷ []; arrows = []; frames = frame 0 64 0 ∷ []; comparisons = [] }

pub record WorkedCases : Type 0 where
  -- those of the lower crates
  pub expressions : Worked
  pub courses : WorkedCourses
  pub rows_parallel : rows_in parallel ≡ rows_p
  pub rows_united : rows_in united ≡ rows_q
  pub rows_alone : rows_in alone ≡ []
  -- the views
  pub shows_p : viewed_p labels_p constants_p ≡ Ok (picture course_p rows_p 3)
  pub shows_q : viewed_q labels_q constants_q ≡ Ok (picture course_q rows_q 3)
  pub shows_alone : viewed_alone ≡ Ok (picture course_alone [] 0)
  -- tables that are too short
  pub few_labels : viewed_p (label_of (codes "North") ∷ []) constants_p ≡ Err ShortTable
  pub no_constants : viewed_q labels_q [] ≡ Err ShortTable
