use Rattle.std.proofs.Common.{◌≡◌, ℕ, true, false, length, get_or, ap, arith, rules, tests}
use Rattle.std.proofs.lemmas.Iterator.{first_from_Range}
use Rattle.std.proofs.lemmas.List.{get_or_read}
use Rattle.expression.specs.declared.form.Form.TheVariants.{Zero}
use Rattle.expression.specs.Admission.{form_in_range, range_kept}
use Rattle.expression.proofs.Lowest.{lowest_by}
use Rattle.expression.proofs.table.Table.check_ranges.Goals as goal

pub returns : goal.returns
returns c =
    let ps = c.args.self.now.forms.items in
    let constants = c.args.constants in
    let code = λ (k : ℕ). form_in_range constants (get_or c.args.levels.now k 0) (get_or ps k Zero) in
    let found = lowest_by (range_kept ps constants) c.len.result (length ps) c.len.ensures.value c.find.result code
    (λ k l. ap (λ (level : ℕ). form_in_range constants level (get_or ps k Zero)) (c.requires k l))
    (first_from_Range _ _ _ _ (λ k. code k ≡ false) (λ k. code k ≡ true) c.find.ensures.ran
    (λ x q k. grind (arith, tests, get_or_read))
    (λ x q k. (search rules, grind (arith, tests, get_or_read)))) in
    rw (← found) (search rules)
