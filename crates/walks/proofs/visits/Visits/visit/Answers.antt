use Rattle.std.proofs.Common.{◌≡◌, true, false, get_or, arith, rules}
use Rattle.std.proofs.lemmas.List.{get_or_default}
use Rattle.walks.proofs.Marking.{trues_below, trues_more}
use Rattle.walks.proofs.visits.Visits.visit.Goals as goal

pub push-requires : goal.push-requires
push-requires c =
    let free : get_or c.args.self.now.marks c.args.node true ≡ false = search (rules, get_or_default) in
    (omega arith, omega (arith, trues_below c.args.self.now.marks c.args.node free, c.args.self.now.few))

pub invariant_of-self : goal.invariant_of-self
invariant_of-self c =
    let free : get_or c.args.self.now.marks c.args.node true ≡ false = search (rules, get_or_default) in
    record { few = omega (arith, trues_more c.args.self.now.marks c.args.node free, c.push.ensures.len, c.args.self.now.few) }
