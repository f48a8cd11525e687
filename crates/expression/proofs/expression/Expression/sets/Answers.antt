use Rattle.std.proofs.Common.{◌≡◌, ◌<◌, ◌≤◌, [], length, get_or, take, ⊎_elim, ◌∙◌, rules, arith}
use Rattle.std.proofs.lemmas.List.{get_or_default, get_or_past, get_or-take, length-take-le}
use Rattle.std.proofs.lemmas.Bool.{cases_lt}
use Rattle.expression.specs.Markers.{no_markers}
use Rattle.expression.specs.Sets.{both_sets}
use Rattle.expression.proofs.Entering.{past_sets}
use Rattle.expression.proofs.expression.Expression.sets.Goals as goal

pub returns : goal.returns
returns c =
    let x = c.args.self.now in
    let ps = x.table.forms.items in
    let p = c.args.place in
    let empty = both_sets no_markers no_markers in
    let long : length x.sets ≡ 64 = omega arith in
    let in_use : length (take (length ps) x.sets) ≡ length ps = length-take-le (length ps) x.sets (omega (arith, x.table.few)) in
    let read : c.unwrap_or.result ≡ get_or (take (length ps) x.sets) p empty = search rules in
    read ∙ ⊎_elim
    (λ (l : p < length ps).
    get_or-take (length ps) x.sets p empty l ∙ get_or_default x.sets p empty (both_sets [] []) (omega (arith, x.table.few)) ∙ x.sets_of p l)
    (λ (l : length ps ≤ p). get_or_past (take (length ps) x.sets) p empty (omega arith) ∙ past_sets ps x.table.lower_parts p l)
    (cases_lt p (length ps))
