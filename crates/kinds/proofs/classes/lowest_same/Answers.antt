use Rattle.std.proofs.Common.{◌≡◌, ◌≢◌, rules}
use Rattle.std.proofs.lemmas.Iterator.{YieldsList-from_slice, IsFirst-from_position}
use borrow.Author.Tests.{tests}
use Rattle.kinds.proofs.Places.{lowest_of_first}
use Rattle.kinds.proofs.classes.lowest_same.Goals as goal

pub returns : goal.returns
returns g c =
    let meaning = g.L.Label.meaning in
    let labels = c.args.labels.now in
    let m = meaning c.args.label.now in
    lowest_of_first meaning m labels _
    (IsFirst-from_position _ _ _ (λ x. meaning x ≡ m) (λ x. meaning x ≢ m) c.position.ensures.ran (YieldsList-from_slice labels cc) (λ x q k. search (rules, tests)) (λ x q k. search (rules, tests)))
