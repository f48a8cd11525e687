-- The laws of a well-behaved editor, and of its history. Assumes nothing.
--
--   row_read alike r d  the answer to a reading of the row r
--   Untouched d after   no label, no commit and no row has changed
--   EmptyCommit         a commit of nothing is refused as such, and changes nothing but that it closes the draft
--   Shown               after a commit of the edits es the view shows exactly what was asked: each edited row shows the label
--                       asked, and each row whose origin is no edited row's is as it was
--   TakenCommit         so it is after every taken commit, whatever calls came before
--   Again               a call is answered as its opposite was, and gives back the desk that there was before
--   UndoRedo, RedoUndo  undo followed by redo, and redo followed by undo, restore every label, whatever calls came before
use Rattle.std.specs.Prelude.{◌≡◌, ℕ, Bool, true, List, [], Some, ◌≢◌}
use Rattle.std.specs.List.{slice_get}
use Rattle.walks.specs.Reach.{In}
use Rattle.rows.specs.declared.row.Row.{Row}
use Rattle.editing.specs.declared.refusal.Refusal.TheVariants.{NoEdit}
use Rattle.editing.specs.declared.request.Edit.{Edit}
use Rattle.editing.specs.declared.request.Request.TheVariants as ask
use Rattle.editing.specs.declared.request.Answer.{Answer}
use Rattle.editing.specs.declared.request.Answer.TheVariants as answer
use Rattle.editing.specs.Model.{Opening, Call}
use Rattle.editing.specs.Machine.{Desk, step, run}
use Rattle.editing.specs.Law.{Opens, opened, asks}

abbrev pub row_read : {L : Type 0} → (L → L → Bool) → ℕ → Desk L → Answer L
row_read alike r d = (step alike (asks 0 (ask.Row r)) d).1

pub record Untouched {L : Type 0} (alike : L → L → Bool) (d after : Desk L) : Type 0 where
  pub labels : after.labels ≡ d.labels
  pub history : after.history ≡ d.history
  pub standing : after.standing ≡ d.standing
  pub rows : (r : ℕ) → row_read alike r after ≡ row_read alike r d

pub record Shown {L V : Type 0} (alike : L → L → Bool) (meaning : L → V) (es : List (Edit L)) (d after : Desk L) : Type 0 where
  pub asked : (e : Edit L) → In e es → (row : Row) × (l : L) × (row_read alike e.row after ≡ answer.Row row l) × (meaning l ≡ meaning e.asked)
  pub others : (r : ℕ) (row : Row) → slice_get d.rows r ≡ Some row → ((e : Edit L) → In e es → e.origin ≢ row.origin) →
      row_read alike r after ≡ row_read alike r d

pub record Again {L : Type 0} (d : Desk L) (n : ℕ) (out : Desk L × Answer L) : Type 0 where
  pub answer : out.1 ≡ answer.Named n
  pub desk : out.0 ≡ d

module _ {L V : Type 0} (alike : L → L → Bool) (meaning : L → V) where
  abbrev pub EmptyCommit : Type 0
  EmptyCommit =
      (d : Desk L) → d.is_open ≡ true → d.draft ≡ Some [] →
      let out = step alike (asks d.number ask.Commit) d in
      (out.1 ≡ answer.Refused NoEdit) × Untouched alike d out.0

  abbrev pub TakenCommit : Type 0
  TakenCommit =
      (o : Opening L) → Opens alike o → (calls : List (Call L)) (es : List (Edit L)) (n : ℕ) →
      let d = run alike calls (opened o) in
      let out = step alike (asks o.number ask.Commit) d in
      d.draft ≡ Some es → out.1 ≡ answer.Named n → Shown alike meaning es d out.0

  abbrev pub UndoRedo : Type 0
  UndoRedo =
      (o : Opening L) → Opens alike o → (calls : List (Call L)) (n : ℕ) →
      let d = run alike calls (opened o) in
      let out = step alike (asks 0 ask.Undo) d in
      out.1 ≡ answer.Named n → Again d n (step alike (asks 0 ask.Redo) out.0)

  abbrev pub RedoUndo : Type 0
  RedoUndo =
      (o : Opening L) → Opens alike o → (calls : List (Call L)) (n : ℕ) →
      let d = run alike calls (opened o) in
      let out = step alike (asks 0 ask.Redo) d in
      out.1 ≡ answer.Named n → Again d n (step alike (asks 0 ask.Undo) out.0)
