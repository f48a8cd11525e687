use Rattle.std.proofs.Common.{None, vec_items, ap, sym, ◌∙◌}
use Rattle.std.proofs.lemmas.List.{get_or-replicate}
use Rattle.walks.specs.Chains.{latest_of}
use Rattle.walks.proofs.step_table.StepTable.new.Goals as goal

pub invariant_of-result-clause-latest_out : goal.invariant_of-result-clause-latest_out
invariant_of-result-clause-latest_out c v l = get_or-replicate 1024 v None None l ∙ sym (ap (latest_of (vec_items c.in_ok-steps.steps) v) c.in_ok-steps.ensures.len)
