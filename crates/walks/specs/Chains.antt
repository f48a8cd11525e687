-- The steps that leave a node, as a chain from the latest one back. Assumes nothing.
--
--   no_step              the step that stands past the end of a list
--   ends                 the tail and the head of a step
--   tail_at steps k      the tail of the step with the number k
--   latest_of steps v n  the latest of the first n steps that leaves the node v; None where none does
use Rattle.std.specs.Prelude.{ℕ, zero, suc, cond, List, ◌==◌, Some, None, Option, slice_index_or}
use Rattle.walks.specs.declared.step_table.Step.{Step}

abbrev pub no_step : Step
no_step = record { tail = 0; head = 0; before = None }

abbrev pub ends : Step → ℕ × ℕ
ends step = (step.tail, step.head)

abbrev pub tail_at : List Step → ℕ → ℕ
tail_at steps k = (slice_index_or steps k no_step).tail

abbrev pub latest_of : List Step → ℕ → ℕ → Option ℕ
latest_of steps v zero = None
latest_of steps v (suc k) = cond (tail_at steps k == v) (Some k) (latest_of steps v k)
