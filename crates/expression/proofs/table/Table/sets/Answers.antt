use Rattle.std.proofs.Common.{◌<◌, List, length, get_or, ap, ◌∙◌, arith, length-set}
use Rattle.expression.specs.declared.form.Form.{Form}
use Rattle.expression.specs.declared.form.Form.TheVariants.{Zero}
use Rattle.expression.specs.Sets.{row, sets_from}
use Rattle.expression.proofs.Entering.{sets_more}
use Rattle.expression.proofs.table.Table.sets.Goals as goal

pub loop-place-preserved : goal.loop-place-preserved
loop-place-preserved c =
    let table = c.args.self.now in
    let loop = c.loop-place in
    let in_table : loop.place < length loop.sets = omega (arith, table.few) in (
      simp length-set loop.invariant.0,
      sets_more table.forms.items table.lower_parts loop.sets loop.place c.sets_of.result in_table loop.invariant.1
          (c.sets_of.ensures ∙ ap (λ (qs : List Form). sets_from (row loop.sets) (get_or qs loop.place Zero)) c.deref-form-items.ensures.0),
    )
