use Rattle.std.proofs.Common.{◌≡◌, true, false, length, arith, rules, tests}
use Rattle.std.proofs.lemmas.Iterator.{first_from_Range}
use Rattle.expression.specs.Sets.{row}
use Rattle.expression.specs.Admission.{sets_agree, sets_agree_by}
use Rattle.expression.proofs.Lowest.{lowest_by}
use Rattle.expression.proofs.Entering.{agree_by}
use Rattle.expression.proofs.table.Table.check_sets.Goals as goal

pub returns : goal.returns
returns c =
    let table = c.args.self.now in
    let code = sets_agree_by (row c.args.sets.now) table.forms.items in
    let found = lowest_by (sets_agree table.forms.items) c.len.result (length table.forms.items) c.len.ensures.value c.find.result code
    (agree_by table.forms.items table.lower_parts c.args.sets.now c.requires)
    (first_from_Range _ _ _ _ (λ k. code k ≡ false) (λ k. code k ≡ true) c.find.ensures.ran
    (λ x q k. grind (arith, tests))
    (λ x q k. (search rules, grind (arith, tests)))) in
    rw (← found) (search rules)
