-- What is answered to each line of a list of label texts. Assumes nothing.
--
-- A kind of labels is told by four things: the text of a label, that making gives it, why another text is refused,
-- and the meaning of a label.
--   meaning_of a      the meaning of the label of an answer, if it has one
--   Answers as l a    a is the answer to the line l after the answers as: the label that has this text, with the
--                     lowest line whose label is the same, or the refusal of a line that is no label's text
--   Listed ls as      as has the answer to each of the lines ls, each after those before it
use Rattle.std.specs.Prelude.{◌≡◌, ℕ, ◌<◌, List, [], ◌∷◌, ◌++◌, map, length, take, Some, None, Ok, Err, Option, Result, ◌≢◌, slice_index_or}
use Rattle.kinds.specs.declared.refusal.Refusal.{Refusal}
use Rattle.kinds.specs.declared.refusal.Refusal.TheVariants.{Text}
use Rattle.kinds.specs.Classes.{Class}
use Rattle.listing.specs.declared.answer.Classified.{Classified}

abbrev pub meaning_of : {L M : Type 0} → (L → M) → Result (Classified L) Refusal → Option M
meaning_of meaning (Ok x) = Some (meaning x.label)
meaning_of meaning (Err e) = None

abbrev pub Answers : {L M : Type 0} (text : L → List ℕ) (made : L → Type 0) (refusal : Refusal) (meaning : L → M) → List (Result (Classified L) Refusal) → List ℕ → Result (Classified L) Refusal → Type 0
Answers text made refusal meaning earlier line (Ok x) =
    made x.label × (text x.label ≡ line) × Class (map (meaning_of meaning) earlier ++ (Some (meaning x.label) ∷ [])) (length earlier) x.class
Answers {L} text made refusal meaning earlier line (Err e) =
    (e ≡ refusal) × ((x : L) → made x → text x ≢ line)

pub record Listed {L M : Type 0} (text : L → List ℕ) (made : L → Type 0) (refusal : Refusal) (meaning : L → M) (lines : List (List ℕ)) (answers : List (Result (Classified L) Refusal)) : Type 0 where
  pub each_line : length answers ≡ length lines
  pub answered : (i : ℕ) → i < length lines → Answers text made refusal meaning (take i answers) (slice_index_or lines i []) (slice_index_or answers i (Err Text))
