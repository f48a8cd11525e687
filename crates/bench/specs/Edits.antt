-- The edits of a draft, as they lie in a draft and a table of the labels asked. Assumes nothing.
--
--   origin_at rows r    the origin of the row of number r; blank where there is no such row
--   edit_for rows r l   the edit that asks the label l for the row of number r; it has the origin of its row
--   paired_edits rows rs ls   the edits of the row numbers rs with the labels ls, as many as there are of both
--   edits_of rows d ls  the edits of the draft d, whose row numbers speak of rows, with the labels ls of the table
--   room_for r es       the refusal of an edit of the row r where the edits es are 32 or more and none of them is the row's
use Rattle.std.specs.Prelude.{ℕ, cond, not, ◌&&◌, List, [], ◌∷◌, length, Ok, Err, Result, nat_le}
use Rattle.std.specs.List.{slice_get}
use Rattle.std.specs.Option.{option_map_or}
use Rattle.course.specs.declared.course.Origin.{Origin}
use Rattle.course.specs.declared.course.Origin.TheVariants.{Blank}
use Rattle.rows.specs.declared.row.Row.{Row}
use Rattle.editing.specs.declared.refusal.Refusal.{Refusal}
use Rattle.editing.specs.declared.refusal.Refusal.TheVariants.{FullDraft}
use Rattle.editing.specs.declared.request.Edit.{Edit}
use Rattle.editing.specs.Model.{edited}
use Rattle.bench.specs.declared.draft.Draft.{Draft}

abbrev pub origin_at : List Row → ℕ → Origin
origin_at rows r = option_map_or (λ row. row.origin) (slice_get rows r) Blank

module _ {L : Type 0} where
  abbrev pub edit_for : List Row → ℕ → L → Edit L
  edit_for rows r l = record { row = r; origin = origin_at rows r; asked = l }

  abbrev pub paired_edits : List Row → List ℕ → List L → List (Edit L)
  paired_edits rows [] ls = []
  paired_edits rows (r ∷ rs) [] = []
  paired_edits rows (r ∷ rs) (l ∷ ls) = edit_for rows r l ∷ paired_edits rows rs ls

  abbrev pub edits_of : List Row → Draft → List L → List (Edit L)
  edits_of rows d ls = paired_edits rows d.rows.items ls

  abbrev pub room_for : ℕ → List (Edit L) → Result Unit Refusal
  room_for r es = cond (not (edited r es) && nat_le 32 (length es)) (Err FullDraft) (Ok tt)
