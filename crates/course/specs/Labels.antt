-- How a run compares labels. Assumes nothing.
--
--   Compare        how the labels of two origins compare: all that a run sees of labels
--   class_of cs o  the class number of the label of the origin o
--   by_class cs    the comparison by class numbers: Same where they are equal
use Rattle.std.specs.Prelude.{ℕ, cond, ◌==◌, slice_index}
use Rattle.course.specs.declared.classes.Classes.{Classes}
use Rattle.course.specs.declared.course.Origin.{Origin}
use Rattle.course.specs.declared.course.Origin.TheVariants.{Blank, Source, Constant}
use Rattle.course.specs.declared.course.Outcome.{Outcome}
use Rattle.course.specs.declared.course.Outcome.TheVariants.{Same, Other}

abbrev pub Compare : Type 0
Compare = Origin → Origin → Outcome

abbrev pub class_of : Classes → Origin → ℕ
class_of cs Blank = 0
class_of cs (Source k) = slice_index cs.arrows k
class_of cs (Constant k) = slice_index cs.constants k

abbrev pub by_class : Classes → Compare
by_class cs a b = cond (class_of cs a == class_of cs b) Same Other
