-- How many answers there are of each sort. Assumes nothing.
--
--   first_of_class i a   whether the answer a to the line i is a label, and the first of its class
--   labels_in as         how many lines are labels
--   distinct_in i as     how many of the labels, on lines numbered from i on, are the first of their class
--   refused_in as        how many lines are refused
use Rattle.std.specs.Prelude.{ℕ, Bool, false, List, count_by, is_ok, Ok, Err, Result, ◌==◌}
use Rattle.std.specs.List.{enumerate_from}
use Rattle.std.specs.Result.{is_err}
use Rattle.kinds.specs.declared.refusal.Refusal.{Refusal}
use Rattle.listing.specs.declared.answer.Classified.{Classified}

abbrev pub first_of_class : {L : Type 0} → ℕ → Result (Classified L) Refusal → Bool
first_of_class i (Ok x) = x.class == i
first_of_class i (Err e) = false

abbrev pub labels_in : {L : Type 0} → List (Result (Classified L) Refusal) → ℕ
labels_in as' = count_by is_ok as'

abbrev pub distinct_in : {L : Type 0} → ℕ → List (Result (Classified L) Refusal) → ℕ
distinct_in i as' = count_by (λ a. first_of_class a.0 a.1) (enumerate_from i as')

abbrev pub refused_in : {L : Type 0} → List (Result (Classified L) Refusal) → ℕ
refused_in as' = count_by is_err as'
