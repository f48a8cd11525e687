-- Drafts: what edits ask of the source arrows, and the answer to a trial of them. Assumes nothing.
--
-- Labels are of any kind L; alike tells whether two have one meaning.
--   Labelling L            a table of the source arrows' labels and one of the constants
--   label_in ls o          the label that the labelling ls gives the origin o; none where it is blank or past its table
--   compare_by alike ls    how two origins compare under the labelling ls
--   relabel f i xs         the table xs, each label made anew by f from its number, counted from i on, and itself
--   is_source k o          whether the origin o is the source arrow k
--   is_constant o          whether the origin o is a constant
--   same_arrow a b         whether the origins a and b are one source arrow
--   same_outcome           whether two outcomes are one
--   turns cmp i cs         the first of the comparisons cs, numbered from i on, that comes out otherwise under cmp
--   first p es             the lowest of the edits es that passes p. Edits go by row, the lowest first
--   asked_or e l           the label that the edit asks; l where there is no edit
--   put es ls              the labelling ls with each label that the edits ask put in; the lowest edit of an arrow counts
--   Change L               an arrow and the label that a commit gives it
--   changes es             one change for each source arrow that the edits name, with the label that its lowest edit asks
--   changes_over low es    the same for the edits es, where the edits low came before: an arrow named there has its change
--   change_for o l e cs    the change of the origin o to l before the changes cs; none where o is no source arrow or a lower
--                          edit e names it
--   otherwise alike e d    whether the edits e and d ask one arrow labels that are not alike
--   clash_for e d rest     the edit e where a lower edit d was found that asks otherwise; else rest
--   clashing alike low es the lowest of the edits es whose arrow a lower edit asks otherwise; the edits low came before
--   row_of e               the row of an edit
--   clash_of es e          what is told of the clashing edit e: its row, and its arrow's lowest edited row
--   turn_of es t           what is told of the comparison t, with its number, that turns: its place and frame, and the lowest
--                          edited row whose arrow is on a side of it
--   refuse_where o e v     the refusal that e gives for what was found, and the verdict v where nothing was found
--   crowds s n es          whether s standing commits with n changes leave no room for a commit of the edits es: a history
--                          holds 64 commits and 256 changes
--   is_empty es            whether there is no edit
--   verdict                the answer to a trial of the edits es under the labelling ls, where cs are the comparisons of the
--                          course, and s commits with n changes stand: how many arrows the edits name, or why not
use Rattle.std.specs.Prelude.{ℕ, suc, ◌+◌, Bool, true, false, cond, not, ◌&&◌, ◌||◌, List, [], ◌∷◌, ◌++◌, length, Some, None, Ok, Err, Option, Result, ◌==◌, nat_le, nat_lt}
use Rattle.course.specs.declared.course.Comparison.{Comparison}
use Rattle.course.specs.declared.course.Origin.{Origin}
use Rattle.course.specs.declared.course.Origin.TheVariants.{Blank, Source, Constant}
use Rattle.course.specs.declared.course.Outcome.{Outcome}
use Rattle.course.specs.declared.course.Outcome.TheVariants.{Same, Other}
use Rattle.course.specs.Labels.{Compare}
use Rattle.laws.specs.Labelling.{label_of, by_label}
use Rattle.editing.specs.declared.refusal.Clash.{Clash}
use Rattle.editing.specs.declared.refusal.Turn.{Turn}
use Rattle.editing.specs.declared.refusal.Refusal.{Refusal}
use Rattle.editing.specs.declared.refusal.Refusal.TheVariants.{NoEdit, ConstantRow, Clashes, Turns, FullHistory}
use Rattle.editing.specs.declared.request.Edit.{Edit}

pub record Labelling (L : Type 0) : Type 0 where
  pub arrows : List L
  pub constants : List L

abbrev pub label_in : {L : Type 0} → Labelling L → Origin → Option L
label_in ls o = label_of ls.arrows ls.constants o

abbrev pub compare_by : {L : Type 0} → (L → L → Bool) → Labelling L → Compare
compare_by alike ls = by_label alike ls.arrows ls.constants

abbrev pub relabel : {L : Type 0} → (ℕ → L → L) → ℕ → List L → List L
relabel f i [] = []
relabel f i (x ∷ xs) = f i x ∷ relabel f (suc i) xs

abbrev pub is_source : ℕ → Origin → Bool
is_source k Blank = false
is_source k (Source j) = k == j
is_source k (Constant c) = false

abbrev pub is_constant : Origin → Bool
is_constant Blank = false
is_constant (Source j) = false
is_constant (Constant c) = true

abbrev pub same_arrow : Origin → Origin → Bool
same_arrow Blank o = false
same_arrow (Source k) o = is_source k o
same_arrow (Constant c) o = false

abbrev pub same_outcome : Outcome → Outcome → Bool
same_outcome Same Same = true
same_outcome Same Other = false
same_outcome Other Same = false
same_outcome Other Other = true

abbrev pub turns : Compare → ℕ → List Comparison → Option (ℕ × Comparison)
turns cmp i [] = None
turns cmp i (c ∷ cs) = cond (same_outcome (cmp c.left c.right) c.outcome) (turns cmp (suc i) cs) (Some (i, c))

pub record Change (L : Type 0) : Type 0 where
  pub arrow : ℕ
  pub label : L

module _ {L : Type 0} where
  abbrev pub first : (Edit L → Bool) → List (Edit L) → Option (Edit L)
  first p [] = None
  first p (e ∷ es) = cond (p e) (Some e) (first p es)

  abbrev pub asked_or : Option (Edit L) → L → L
  asked_or None l = l
  asked_or (Some e) l = e.asked

  abbrev pub put : List (Edit L) → Labelling L → Labelling L
  put es ls =
      record {
        arrows = relabel (λ k x. asked_or (first (λ e. is_source k e.origin) es) x) 0 ls.arrows;
        constants = ls.constants;
      }

  abbrev pub change_for : Origin → L → Option (Edit L) → List (Change L) → List (Change L)
  change_for Blank l e cs = cs
  change_for (Source k) l None cs = record { arrow = k; label = l } ∷ cs
  change_for (Source k) l (Some d) cs = cs
  change_for (Constant c) l e cs = cs

  abbrev pub changes_over : List (Edit L) → List (Edit L) → List (Change L)
  changes_over low [] = []
  changes_over low (e ∷ es) =
      change_for e.origin e.asked (first (λ d. same_arrow e.origin d.origin) low) (changes_over (low ++ (e ∷ [])) es)

  abbrev pub changes : List (Edit L) → List (Change L)
  changes es = changes_over [] es

  abbrev pub row_of : Option (Edit L) → ℕ
  row_of None = 0
  row_of (Some e) = e.row

  abbrev pub clash_of : List (Edit L) → Edit L → Clash
  clash_of es e = record { row = e.row; lowest = row_of (first (λ d. same_arrow e.origin d.origin) es) }

  abbrev pub turn_of : List (Edit L) → ℕ × Comparison → Turn
  turn_of es t =
      record {
        comparison = t.0;
        place = t.1.place;
        frame = t.1.frame;
        row = row_of (first (λ e. same_arrow e.origin t.1.left || same_arrow e.origin t.1.right) es);
      }

  abbrev pub crowds : ℕ → ℕ → List (Edit L) → Bool
  crowds s n es = nat_le 64 s || nat_lt 256 (n + length (changes es))

  abbrev pub is_empty : List (Edit L) → Bool
  is_empty [] = true
  is_empty (e ∷ es) = false

abbrev pub refuse_where : {X : Type 0} → Option X → (X → Refusal) → Result ℕ Refusal → Result ℕ Refusal
refuse_where None e v = v
refuse_where (Some x) e v = Err (e x)

module _ {L : Type 0} (alike : L → L → Bool) where
  abbrev pub otherwise : Edit L → Edit L → Bool
  otherwise e d = same_arrow e.origin d.origin && not (alike e.asked d.asked)

  abbrev pub clash_for : Edit L → Option (Edit L) → Option (Edit L) → Option (Edit L)
  clash_for e None rest = rest
  clash_for e (Some d) rest = Some e

  abbrev pub clashing : List (Edit L) → List (Edit L) → Option (Edit L)
  clashing low [] = None
  clashing low (e ∷ es) = clash_for e (first (otherwise e) low) (clashing (low ++ (e ∷ [])) es)

  abbrev pub verdict : ℕ → ℕ → List Comparison → Labelling L → List (Edit L) → Result ℕ Refusal
  verdict s n cs ls es =
      cond (is_empty es) (Err NoEdit)
      (refuse_where (first (λ e. is_constant e.origin) es) (λ e. ConstantRow e.row)
      (refuse_where (clashing [] es) (λ e. Clashes (clash_of es e))
      (refuse_where (turns (compare_by alike (put es ls)) 0 cs) (λ t. Turns (turn_of es t))
      (cond (crowds s n es) (Err FullHistory) (Ok (length (changes es)))))))
