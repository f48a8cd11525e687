-- The law over runs of a bench: whatever calls follow one another from an opening. Assumes nothing.
--
-- Labels are of any kind L with a meaning for each; they are told apart by meaning alone.
--   Exact alike meaning   two labels are alike exactly where their meanings are equal
--   meant meaning o       the meaning of a label, if there is one
--   Opens alike o         o is an opening that can be had: the source is sound, the expression keeps its rules with these
--                         constants, there is a label for each source arrow, and the node and the course are those of the
--                         forward run on the labels
--   opened o              the machine's state when a bench has been opened
--   asks n r              the call with the request r and a slip of number n, with tables that are long enough
--   course_of run         the course of a run that is done
--   rows_in run           the rows of a run that is done
--   Rival                 a labelling that relabels, of a labelling, only source arrows that are origins of edited rows
--   Serves                its forward run takes the opening's course, and each edited row shows the label asked
--   NoneServes            no rival serves
--   unservable e          whether the refusal has the number 31, 32 or 33: a constant, a clash or a turned comparison
--   turned_down a         whether the answer is such a refusal
--   Upheld                what holds after the calls, on the desk d, with the answers told:
--     labels                each source arrow's label is the one asked for it by the latest standing commit that names it,
--                         and where none does, the opening's
--     course                a forward run on these labels takes the opening's course exactly
--     rows                  each row read is that run's row of the same number, with its origin's present label
--     trial, commit         with a slip that fits, trial and commit would be refused as 31, 32 or 33 exactly when no rival
--                         labelling serves
--     answers               each answer, readings included, is the one that the rules give
--   RunLaw                all this after any calls, taken or refused, with any slips, rows and labels
use Rattle.std.specs.Prelude.{◌≡◌, ℕ, Bool, true, false, ◌&&◌, ◌⊎◌, ◌↔◌, List, [], length, Some, None, Option, nat_le}
use Rattle.std.specs.List.{slice_get}
use Rattle.expression.specs.Rules.{keeps}
use Rattle.course.specs.declared.course.Origin.TheVariants.{Source}
use Rattle.course.specs.Course.{Course, Run, done, full}
use Rattle.walks.specs.Reach.{In}
use Rattle.course.specs.Forward.{forward}
use Rattle.laws.specs.Bounds.{Sound}
use Rattle.rows.specs.declared.row.Row.{Row}
use Rattle.rows.specs.Rows.{rows_of}
use Rattle.editing.specs.declared.refusal.Refusal.{Refusal}
use Rattle.editing.specs.declared.request.Request.{Request}
use Rattle.editing.specs.declared.request.Request.TheVariants as ask
use Rattle.editing.specs.declared.request.Answer.{Answer}
use Rattle.editing.specs.declared.request.Answer.TheVariants as answer
use Rattle.editing.specs.declared.request.Edit.{Edit}
use Rattle.editing.specs.Refusals.{number}
use Rattle.editing.specs.Drafts.{Labelling, label_in, compare_by}
use Rattle.editing.specs.Model.{Opening, rows_shown, Call, present, start, after, replies}
use Rattle.editing.specs.Machine.{Desk, step, run, answers}

abbrev pub Exact : {L V : Type 0} → (L → L → Bool) → (L → V) → Type 0
Exact {L} alike meaning = (x y : L) → (alike x y ≡ true) ↔ (meaning x ≡ meaning y)

abbrev pub meant : {L V : Type 0} → (L → V) → Option L → Option V
meant meaning None = None
meant meaning (Some l) = Some (meaning l)

pub record Opens {L : Type 0} (alike : L → L → Bool) (o : Opening L) : Type 0 where
  pub sound : Sound o.graph
  pub rules : keeps (length o.labels.constants) o.tree ≡ true
  pub labels : length o.labels.arrows ≡ length o.graph.arrows
  pub run : forward (compare_by alike o.labels) o.graph o.tree ≡ done o.node o.course

abbrev pub opened : {L : Type 0} → Opening L → Desk L
opened o =
    record {
      is_open = true;
      number = o.number;
      ends = o.graph.arrows;
      course = o.course;
      rows = rows_shown o;
      labels = o.labels;
      draft = None;
      history = [];
      standing = 0;
    }

abbrev pub asks : {L : Type 0} → ℕ → Request L → Call L
asks n r = record { short = false; slip = n; request = r }

abbrev pub course_of : Run ℕ → Option Course
course_of (done v c) = Some c
course_of (full e) = None

abbrev pub rows_in : Run ℕ → List Row
rows_in (done v c) = rows_of c.arrows (length c.nodes) v
rows_in (full e) = []

pub record Rival {L V : Type 0} (meaning : L → V) (es : List (Edit L)) (ls other : Labelling L) : Type 0 where
  pub size : length other.arrows ≡ length ls.arrows
  pub arrows : (k : ℕ) → (meant meaning (slice_get other.arrows k) ≡ meant meaning (slice_get ls.arrows k)) ⊎ ((e : Edit L) × In e es × (e.origin ≡ Source k))
  pub constants : other.constants ≡ ls.constants

pub record Serves {L V : Type 0} (alike : L → L → Bool) (meaning : L → V) (o : Opening L) (es : List (Edit L)) (other : Labelling L) : Type 0 where
  pub course : course_of (forward (compare_by alike other) o.graph o.tree) ≡ Some o.course
  pub shows : (e : Edit L) → In e es → meant meaning (label_in other e.origin) ≡ Some (meaning e.asked)

abbrev pub NoneServes : {L V : Type 0} → (L → L → Bool) → (L → V) → Opening L → Labelling L → List (Edit L) → Type 0
NoneServes {L} alike meaning o ls es = (other : Labelling L) → Rival meaning es ls other → Serves alike meaning o es other → ⊥

abbrev pub unservable : Refusal → Bool
unservable e = nat_le 31 (number e) && nat_le (number e) 33

abbrev pub turned_down : {L : Type 0} → Answer L → Bool
turned_down (answer.Begun n) = false
turned_down answer.Done = false
turned_down (answer.Named n) = false
turned_down (answer.Row r l) = false
turned_down (answer.Node x) = false
turned_down (answer.Arrow x) = false
turned_down (answer.Frame x) = false
turned_down (answer.Comparison x) = false
turned_down (answer.SourceArrow a l) = false
turned_down (answer.Counts c) = false
turned_down (answer.Draft n) = false
turned_down (answer.Edit e) = false
turned_down (answer.History h) = false
turned_down (answer.Refused e) = unservable e

pub record Upheld {L V : Type 0} (alike : L → L → Bool) (meaning : L → V) (o : Opening L) (calls : List (Call L)) (d : Desk L) (told : List (Answer L)) : Type 0 where
  pub labels : d.labels ≡ present o (after alike o calls)
  pub course : forward (compare_by alike d.labels) o.graph o.tree ≡ done o.node o.course
  pub rows : (r : ℕ) (row : Row) → slice_get (rows_in (forward (compare_by alike d.labels) o.graph o.tree)) r ≡ Some row →
      (l : L) × (label_in d.labels row.origin ≡ Some l) × ((step alike (asks 0 (ask.Row r)) d).1 ≡ answer.Row row l)
  pub trial : (es : List (Edit L)) → (after alike o calls).draft ≡ Some es →
      (turned_down (step alike (asks o.number ask.Trial) d).1 ≡ true) ↔ NoneServes alike meaning o d.labels es
  pub commit : (es : List (Edit L)) → (after alike o calls).draft ≡ Some es →
      (turned_down (step alike (asks o.number ask.Commit) d).1 ≡ true) ↔ NoneServes alike meaning o d.labels es
  pub answers : told ≡ replies alike o calls start

abbrev pub RunLaw : {L V : Type 0} → (L → L → Bool) → (L → V) → Type 0
RunLaw {L} alike meaning =
    (o : Opening L) → Opens alike o → (calls : List (Call L)) →
    Upheld alike meaning o calls (run alike calls (opened o)) (answers alike calls (opened o))
