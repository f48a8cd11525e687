-- What a bench stores, read by number: the edits of its draft, and how many commits are undone. Assumes nothing.
use Rattle.std.proofs.Common.{◌≡◌, Bool, Ok, ℕ, zero, suc, ◌+◌, ◌-◌, ◌≤◌, List, [], ◌∷◌, length, drop, Some, None, Option, Bor, sym, refl, ap, ◌∙◌, arith}
use Rattle.std.specs.List.{slice_get}
use Rattle.std.specs.Option.{option_map, option_copied}
use Rattle.std.specs.Slice.{IsItemAt}
use Rattle.std.proofs.lemmas.List.{length-drop}
use Rattle.std.proofs.lemmas.Option.{slice_get_past, slice_get_read}
use Rattle.arrayvec.specs.ArrayVec.{array_vec_len}
use Rattle.rows.specs.declared.row.Row.{Row}
use Rattle.editing.specs.Model.{how_many}
use Rattle.bench.specs.declared.bench.Bench.{Bench}
use Rattle.bench.specs.declared.draft.Draft.{Draft}
use Rattle.bench.specs.declared.history.History.{History}
use Rattle.bench.specs.Edits.{edit_for, paired_edits}
use Rattle.bench.specs.Reading.{Lists, ends_of, draft_of, commits_of, history_of, short, ready}
use Rattle.bench.proofs.DraftEdits.{edits_length}

-- what `get` lends of a list, copied
pub copied_item : {X : Type 0} (xs : List X) (i : ℕ) (r : Option (Bor X)) → IsItemAt xs i r → option_copied r ≡ slice_get xs i
copied_item xs i None h = sym (slice_get_past xs i h.3)
copied_item xs i (Some x) h = sym (slice_get_read xs (length xs) i x.now refl h.3.0 h.1)

-- the tables of a call that is ready are long enough
pub record Long {L : Type 0} (b : Bench) (t : Lists L) : Type 0 where
  pub labels : length (ends_of b.source) ≤ length t.labels
  pub constants : b.constants ≤ length t.constants
  pub asked : 32 ≤ length t.asked
  pub history : 512 ≤ length t.history

pub long_enough : {L : Type 0} (b : Bench) (t : Lists L) (o : Bool) → ready (short b t) o ≡ Ok tt → Long b t
long_enough b t o h = record { labels = grind arith; constants = grind arith; asked = grind arith; history = grind arith }

-- a bench that is ready has room for the labels that a draft asks
pub asked_long : {L : Type 0} (b : Bench) (t : Lists L) (o : Bool) → ready (short b t) o ≡ Ok tt → 32 ≤ length t.asked
asked_long b t o h = (long_enough b t o h).asked

module _ {L : Type 0} (rows : List Row) where
  pub no_row : (rs : List ℕ) (ls : List L) (i : ℕ) → slice_get rs i ≡ None → slice_get (paired_edits rows rs ls) i ≡ None
  no_row [] ls i h = refl
  no_row (r ∷ rs) [] i h = refl
  no_row (r ∷ rs) (l ∷ ls) zero h = cc
  no_row (r ∷ rs) (l ∷ ls) (suc i) h = no_row rs ls i h

  pub no_label : (rs : List ℕ) (ls : List L) (i : ℕ) → slice_get ls i ≡ None → slice_get (paired_edits rows rs ls) i ≡ None
  no_label [] ls i h = refl
  no_label (r ∷ rs) [] i h = refl
  no_label (r ∷ rs) (l ∷ ls) zero h = cc
  no_label (r ∷ rs) (l ∷ ls) (suc i) h = no_label rs ls i h

  pub an_edit : (rs : List ℕ) (ls : List L) (i r : ℕ) (l : L) → slice_get rs i ≡ Some r → slice_get ls i ≡ Some l → slice_get (paired_edits rows rs ls) i ≡ Some (edit_for rows r l)
  an_edit [] ls i r l h k = cc
  an_edit (x ∷ rs) [] i r l h k = cc
  an_edit (x ∷ rs) (y ∷ ls) zero r l h k =
      let p : x ≡ r = cc in
      let q : y ≡ l = cc in
      ap (λ z. Some (edit_for rows z y)) p ∙ ap (λ z. Some (edit_for rows r z)) q
  an_edit (x ∷ rs) (y ∷ ls) (suc i) r l h k = an_edit rs ls i r l h k

  pub edits_counted : (o : Option Draft) (ls : List L) → 32 ≤ length ls → how_many (draft_of rows o ls) ≡ option_map (λ d. array_vec_len d.rows) o
  edits_counted None ls h = refl
  edits_counted (Some d) ls h = ap Some (edits_length rows d ls h)

commits_length : {L : Type 0} (i : ℕ) (ns arrows : List ℕ) (hs : List L) → length (commits_of i ns arrows hs) ≡ length ns
commits_length i [] arrows hs = refl
commits_length i (n ∷ ns) arrows hs = ap suc (commits_length (i + n) ns arrows hs)

-- how many commits are undone
pub undone_length : {L : Type 0} (h : History) (hs : List L) → length (drop h.standing (history_of h hs)) ≡ array_vec_len h.sizes - h.standing
undone_length h hs =
    let all = commits_length 0 h.sizes.items h.arrows.items hs in
    simp length-drop (omega arith)
