use Rattle.std.proofs.Common.{◌≡◌, ℕ, suc, true, false, cond, eqb, length, get_or, ap, arith, rules, tests}
use Rattle.std.proofs.lemmas.Iterator.{first_from_Range}
use Rattle.std.proofs.lemmas.List.{get_or_read}
use Rattle.expression.specs.Admission.{part_once}
use Rattle.expression.proofs.Lowest.{lowest_by}
use Rattle.expression.proofs.table.Table.check_uses.Goals as goal

pub returns : goal.returns
returns c =
    let ps = c.args.self.now.forms.items in
    let code = λ (k : ℕ). eqb (get_or c.uses-uses.result k 0) (cond (eqb (suc k) (length ps)) 0 1) in
    let found = lowest_by (part_once ps) c.len.result (length ps) c.len.ensures.value c.find.result code
    (λ k l. ap (λ (u : ℕ). eqb u (cond (eqb (suc k) (length ps)) 0 1)) (c.uses-uses.ensures k (omega arith)))
    (first_from_Range _ _ _ _ (λ k. code k ≡ false) (λ k. code k ≡ true) c.find.ensures.ran
    (λ x q k. grind (arith, tests, get_or_read))
    (λ x q k. (search rules, grind (arith, tests, get_or_read)))) in
    rw (← found) (search rules)
