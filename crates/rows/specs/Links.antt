-- Arrows that can be walked, and the blank ones of them as steps. Assumes nothing.
--
--   none             the arrow that stands past the end of a list, as code reads it
--   Fit arrows       there are at most 2,048 arrows, and the ends of each are below 1,024
--   Linked arrows t  the table t holds just the blank ones of the arrows, as steps
use Rattle.std.specs.Prelude.{◌≡◌, ℕ, ◌<◌, ◌≤◌, List, map, length, slice_index_or}
use Rattle.walks.specs.declared.step_table.StepTable.{StepTable}
use Rattle.walks.specs.Tables.{steps_of}
use Rattle.course.specs.declared.course.Arrow.{Arrow}
use Rattle.course.specs.declared.course.Origin.TheVariants.{Blank}
use Rattle.course.specs.Course.{link}
use Rattle.course.specs.Reach.{ends}
use Rattle.rows.specs.Rows.{blanks}

abbrev pub none : Arrow
none = link 0 0 Blank 0 0

pub record Fit (arrows : List Arrow) : Type 0 where
  pub count : length arrows ≤ 2048
  pub tails : (k : ℕ) → k < length arrows → (slice_index_or arrows k none).tail < 1024
  pub heads : (k : ℕ) → k < length arrows → (slice_index_or arrows k none).head < 1024

abbrev pub Linked : List Arrow → StepTable → Type 0
Linked arrows t = steps_of t ≡ map ends (blanks arrows)
