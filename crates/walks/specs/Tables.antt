-- The steps of a table. Assumes nothing.
--
--   steps_of t   the steps that the table t holds, each with its tail and its head, in the order in which they were added
use Rattle.std.specs.Prelude.{ℕ, List, map}
use Rattle.walks.specs.declared.step_table.StepTable.{StepTable}
use Rattle.walks.specs.Chains.{ends}

abbrev pub steps_of : StepTable → List (ℕ × ℕ)
steps_of t = map ends t.steps.items
