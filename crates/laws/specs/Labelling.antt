-- Class numbers stand for labels: the run sees of labels only which have the same meaning. Assumes nothing.
--
-- Labels are of any kind L with a meaning for each, and two are alike exactly where their meanings are equal. A labelling
-- is a table of the source arrows' labels and one of the constants.
--   label_of labels constants o    the label of the origin o; none where it is blank or the table is too short
--   same_labels alike x y          Same where there are two labels and they are alike
--   by_label alike ls ks           the comparison that asks of the two origins' labels themselves whether they are alike
--   Tells s n meaning ls ks cs     of s source arrows and n constants, two have equal class numbers exactly where their
--                                  labels have equal meanings
--   Long g n ls ks                 the tables have a label for each arrow of g and for each of n constants
--   Agrees meaning ls ks q         the two origins of the comparison q have labels, and the outcome is Same exactly where
--                                  these have equal meanings
--
--   ClassesStand                   the run over class numbers is the run that asks the labels themselves
--   RecordedMeanings               every comparison that a finished run recorded agrees with the labels
--   SameCourseMeanings             a second labelling's run takes exactly the same course if and only if its labels agree
--                                  with every comparison recorded in the first's
use Rattle.std.specs.Prelude.{◌≡◌, ℕ, ◌≤◌, Bool, true, cond, ◌↔◌, List, length, Some, None, Option}
use Rattle.std.specs.List.{slice_get}
use Rattle.expression.specs.Forms.{Tree}
use Rattle.expression.specs.Rules.{keeps}
use Rattle.course.specs.declared.classes.Classes.{Classes}
use Rattle.course.specs.declared.course.Comparison.{Comparison}
use Rattle.course.specs.declared.course.Origin.{Origin}
use Rattle.course.specs.declared.course.Origin.TheVariants.{Blank, Source, Constant}
use Rattle.course.specs.declared.course.Outcome.{Outcome}
use Rattle.course.specs.declared.course.Outcome.TheVariants.{Same, Other}
use Rattle.course.specs.Course.{Course, done}
use Rattle.course.specs.Labels.{Compare, class_of, by_class}
use Rattle.course.specs.Sources.{Graph}
use Rattle.course.specs.Forward.{forward}
use Rattle.laws.specs.Every.{Every}
use Rattle.laws.specs.Bounds.{Labelled, Sound}

abbrev pub label_of : {L : Type 0} → List L → List L → Origin → Option L
label_of labels constants Blank = None
label_of labels constants (Source k) = slice_get labels k
label_of labels constants (Constant k) = slice_get constants k

abbrev pub same_labels : {L : Type 0} → (L → L → Bool) → Option L → Option L → Outcome
same_labels alike None None = Other
same_labels alike None (Some y) = Other
same_labels alike (Some x) None = Other
same_labels alike (Some x) (Some y) = cond (alike x y) Same Other

abbrev pub by_label : {L : Type 0} → (L → L → Bool) → List L → List L → Compare
by_label alike labels constants a b = same_labels alike (label_of labels constants a) (label_of labels constants b)

abbrev pub Tells : {L M : Type 0} → ℕ → ℕ → (L → M) → List L → List L → Classes → Type 0
Tells {L} s n meaning labels constants cs =
    (a b : Origin) (x y : L) → Labelled s n a → Labelled s n b →
    label_of labels constants a ≡ Some x → label_of labels constants b ≡ Some y →
    (class_of cs a ≡ class_of cs b) ↔ (meaning x ≡ meaning y)

pub record Long {L : Type 0} (g : Graph) (n : ℕ) (labels constants : List L) : Type 0 where
  pub enough_labels : length g.arrows ≤ length labels
  pub enough_constants : n ≤ length constants

pub record Agrees {L M : Type 0} (meaning : L → M) (labels constants : List L) (q : Comparison) : Type 0 where
  pub left : L
  pub right : L
  pub is_left : label_of labels constants q.left ≡ Some left
  pub is_right : label_of labels constants q.right ≡ Some right
  pub outcome : (q.outcome ≡ Same) ↔ (meaning left ≡ meaning right)

module _ {L M : Type 0} (alike : L → L → Bool) (meaning : L → M) where
  abbrev pub ClassesStand : Type 0
  ClassesStand =
      (labels constants : List L) (cs : Classes) (g : Graph) (n : ℕ) (e : Tree) → Sound g → keeps n e ≡ true →
      Long g n labels constants → Tells (length g.arrows) n meaning labels constants cs →
      forward (by_class cs) g e ≡ forward (by_label alike labels constants) g e

  abbrev pub RecordedMeanings : Type 0
  RecordedMeanings =
      (labels constants : List L) (g : Graph) (n : ℕ) (e : Tree) → Sound g → keeps n e ≡ true → Long g n labels constants →
      (v : ℕ) (c : Course) → forward (by_label alike labels constants) g e ≡ done v c → Every (Agrees meaning labels constants) c.comparisons

  abbrev pub SameCourseMeanings : Type 0
  SameCourseMeanings =
      (labels later constants : List L) (g : Graph) (n : ℕ) (e : Tree) → Sound g → keeps n e ≡ true →
      Long g n labels constants → Long g n later constants →
      (v : ℕ) (c : Course) → forward (by_label alike labels constants) g e ≡ done v c →
      (forward (by_label alike later constants) g e ≡ done v c) ↔ Every (Agrees meaning later constants) c.comparisons
