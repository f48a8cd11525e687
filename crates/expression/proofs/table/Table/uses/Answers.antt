use Rattle.std.proofs.Common.{◌<◌, ◌≤◌, List, length, get_or, sym, refl, ap, ◌∙◌, subst, arith}
use Rattle.std.proofs.lemmas.List.{get_or-replicate}
use Rattle.expression.specs.declared.form.Form.{Form}
use Rattle.expression.specs.declared.form.Form.TheVariants.{Zero}
use Rattle.expression.specs.Forms.{parts_of}
use Rattle.expression.specs.Parts.{Below, times}
use Rattle.expression.proofs.Occurring.{below_at}
use Rattle.expression.proofs.Counting.{uses_none, uses_more, below_further, counts_small}
use Rattle.expression.proofs.table.Table.uses.Goals as goal

pub loop-form-init : goal.loop-form-init
loop-form-init c = (refl, λ p l. get_or-replicate 64 p 0 0 l ∙ sym (uses_none c.args.self.now.forms.items p))

pub count_parts-requires : goal.count_parts-requires
count_parts-requires c =
    let table = c.args.self.now in
    let ps = table.forms.items in
    let i = c.loop-form.form-index in
    let counts = c.loop-form.counts in
    let is = c.parts.ensures ∙ ap (λ (qs : List Form). parts_of (get_or qs i Zero)) c.deref-form-items.ensures.0 in
    let below : i ≤ length counts = omega (arith, table.few) in
    record {
      inside = subst (Below (length counts)) (sym is) (below_further i (length counts) (parts_of (get_or ps i Zero)) below (below_at ps table.lower_parts i));
      small = counts_small ps counts i (omega (arith, table.few)) c.loop-form.invariant.0 c.loop-form.invariant.1;
    }

pub loop-form-preserved : goal.loop-form-preserved
loop-form-preserved c =
    let i = c.loop-form.form-index in
    let is = c.parts.ensures ∙ ap (λ (qs : List Form). parts_of (get_or qs i Zero)) c.deref-form-items.ensures.0 in (
      omega arith,
      λ p l.
          let h : p < length c.loop-form.counts = omega arith in
          let e = c.count_parts.ensures p h in
          let f = c.loop-form.invariant.1 p l in
          let g = uses_more c.args.self.now.forms.items i p in
          let k = ap (times p) is in
          omega arith,
    )
