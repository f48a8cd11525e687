use Rattle.std.proofs.Common.{◌≡◌, get_or, sym, ap, ◌∙◌, subst, rules}
use Rattle.expression.specs.declared.form.Form.{Form}
use Rattle.expression.specs.declared.form.Form.TheVariants.{Zero}
use Rattle.expression.specs.Forms.{Lower, grown, tree_at}
use Rattle.expression.proofs.Trees.{unrolls, lower_tells}
use Rattle.expression.proofs.expression.Expression.form.Goals as goal

pub returns : goal.returns
returns c =
    let table = c.args.self.now.table in
    let ps = table.forms.items in
    let p = c.args.place in
    let is : c.unwrap_or.result ≡ get_or ps p Zero = search rules in
    record {
      value = is;
      tree = unrolls ps table.lower_parts p ∙ ap (λ (q : Form). grown q p (tree_at ps)) (sym is);
      low = subst (Lower p) (sym is) (lower_tells p (get_or ps p Zero) (table.lower_parts p));
    }
