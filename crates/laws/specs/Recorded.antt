-- What the comparisons of a course say of the run that left it. Assumes nothing.
--
--   Holds cmp q    the comparison q has the outcome that cmp gives to its two origins
--   Recorded       every comparison that a finished run recorded has the outcome that the run's own way to compare gives
--   SameCourse     a second way to compare leads a finished run to the same answer and the same course if and only if it
--                  gives every comparison recorded there the outcome recorded there
use Rattle.std.specs.Prelude.{◌≡◌, ℕ, ◌↔◌}
use Rattle.expression.specs.Forms.{Tree}
use Rattle.course.specs.declared.course.Comparison.{Comparison}
use Rattle.course.specs.Course.{Course, done}
use Rattle.course.specs.Labels.{Compare}
use Rattle.course.specs.Sources.{Graph}
use Rattle.course.specs.Forward.{forward}
use Rattle.laws.specs.Every.{Every}

abbrev pub Holds : Compare → Comparison → Type 0
Holds cmp q = q.outcome ≡ cmp q.left q.right

abbrev pub Recorded : Type 0
Recorded =
    (cmp : Compare) (g : Graph) (e : Tree) (v : ℕ) (c : Course) →
    forward cmp g e ≡ done v c → Every (Holds cmp) c.comparisons

abbrev pub SameCourse : Type 0
SameCourse =
    (first second : Compare) (g : Graph) (e : Tree) (v : ℕ) (c : Course) →
    forward first g e ≡ done v c →
    (forward second g e ≡ done v c) ↔ Every (Holds second) c.comparisons
