use Rattle.std.proofs.Common.{◌≤◌, length, rules}
use Rattle.std.proofs.lemmas.Iterator.{YieldsList-from_slice}
use Rattle.std.proofs.lemmas.Iterator.Search.{all_from_yields_List}
use borrow.Author.Tests.{tests}
use Rattle.kinds.specs.Texts.{house}
use Rattle.kinds.proofs.Makes.{legal_by_letters}
use Rattle.kinds.proofs.text.is_legal.Goals as goal

pub returns-then-contains : goal.returns-then-contains
returns-then-contains c =
    let text = c.args.text.now in
    let in_range : (1 ≤ length text) × (length text ≤ 16) = search (rules, tests) in
    legal_by_letters text c.all.result in_range.0 in_range.1
    (all_from_yields_List house _ _ c.all.result c.all.ensures.ran (YieldsList-from_slice text cc) (λ x b q k. search (rules, tests)))
