use Rattle.std.proofs.Common.{length, ap, arith}
use Rattle.expression.proofs.Single.{single_passes}
use Rattle.expression.proofs.expression.Expression.new.Goals as goal

pub invariant_of-result : goal.invariant_of-result
invariant_of-result c =
    let p = single_passes c.one_node-table.result.forms.items c.one_node-table.ensures in
    record {
      some = omega (arith, ap length c.one_node-table.ensures);
      few_constants = omega arith;
      once = p.0;
      levels_of = p.1;
      ranged = p.2;
      sets_of = c.sets-sets.ensures;
      rules = p.3;
    }
