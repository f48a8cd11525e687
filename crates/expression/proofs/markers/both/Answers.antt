use Rattle.std.proofs.Common.{false, ◌||◌, get_or, ◌∙◌, rules, tests, arith}
use Rattle.std.proofs.lemmas.List.{get_or_read}
use Rattle.expression.proofs.Filling.{filled_by}
use Rattle.expression.proofs.Flags.{both_from}
use Rattle.expression.proofs.markers.both.Goals as goal

pub returns : goal.returns
returns c =
    let xs = c.args.left in
    let ys = c.args.right in
    both_from xs ys c.from_fn.result (omega arith) (c.from_fn.ensures.items.long ∙ omega arith)
    (λ k l. filled_by _ _ c.from_fn.result false (λ i. get_or xs i false || get_or ys i false)
    (λ i y q h. (search (rules, tests), grind (arith, tests, get_or_read))) 8 0 c.from_fn.ensures.items.each k (omega arith) (omega arith))
