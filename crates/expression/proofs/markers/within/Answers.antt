use Rattle.std.proofs.Common.{◌≡◌, Bool, true, false, not, ◌||◌, arith, rules, tests}
use Rattle.std.proofs.lemmas.Iterator.{cases_from_all, YieldsList-from_slice, YieldsList-from_zip}
use Rattle.expression.proofs.Flags.{within_tells}
use Rattle.expression.proofs.markers.within.Goals as goal

pub returns : goal.returns
returns c =
    let xs = c.args.left in
    let ys = c.args.right in
    within_tells xs ys (omega arith) c.all.result
    (cases_from_all c.all.new.self _ c.all.result (λ (flags : Bool × Bool). (not flags.0 || flags.1) ≡ true) (λ (flags : Bool × Bool). (not flags.0 || flags.1) ≡ false) c.all.ensures.ran
    (YieldsList-from_zip (YieldsList-from_slice {s = c.zip.result.a} xs cc) (YieldsList-from_slice {s = c.zip.result.b} ys cc))
    (λ x q k. search (rules, tests)) (λ x q k. search (rules, tests)))
