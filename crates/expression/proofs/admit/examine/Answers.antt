use Rattle.std.proofs.Common.{◌≡◌, List, length, get_or, Err, Some, sym, refl, ap, ◌∙◌, ◌<◌, rules, arith}
use Rattle.std.proofs.lemmas.List.{length-map}
use Rattle.expression.specs.declared.form.Form.{Form}
use Rattle.expression.specs.declared.form.Form.TheVariants.{Zero}
use Rattle.expression.specs.declared.refusal.Refusal.TheVariants.{NotPartOnce, OutOfRange, SetsUnfit}
use Rattle.expression.specs.Raw.{form_read}
use Rattle.expression.specs.Admission.{part_once, range_kept, sets_agree}
use Rattle.expression.proofs.Admitting.{sized_tells, told_size, told_form, told_use, told_range, told_sets, told_admitted}
use Rattle.expression.proofs.Keeping.{kept}
use Rattle.expression.proofs.Lowest.{each_told}
use Rattle.expression.proofs.Forming.{read_form}
use Rattle.expression.proofs.admit.examine.Goals as goal

pub returns-then-not-sizes_fit : goal.returns-then-not-sizes_fit
returns-then-not-sizes_fit c = told_size c.args.raw.now c.args.constants (sym c.if-not-sizes_fit.ensures)

pub returns-in_err-table : goal.returns-in_err-table
returns-in_err-table c =
    let is : c.from_residual.result ≡ Err c.in_err-table.field-0.0 = search rules in
    rw is
    (told_form c.args.raw.now c.args.constants c.in_err-table.field-0.0 (sym c.if-not-sizes_fit.ensures) c.in_err-table.ensures.answer)

pub levels-levels-requires-clause-once : goal.levels-levels-requires-clause-once
levels-levels-requires-clause-once c =
    let ps = c.in_ok-table.table.forms.items in
    each_told NotPartOnce (part_once ps) (length ps) (sym c.in_ok-check_uses.ensures)

pub returns-in_err-check_uses : goal.returns-in_err-check_uses
returns-in_err-check_uses c =
    let is : c.from_residual-in_err-check_uses.result ≡ Err c.in_err-check_uses.field-0.0 = search rules in
    rw is
    (told_use c.args.raw.now c.args.constants c.in_ok-table.table.forms.items c.in_ok-table.ensures.table (sym c.if-not-sizes_fit.ensures) c.in_ok-table.ensures.answer c.in_err-check_uses.field-0.0 (sym c.in_err-check_uses.ensures))

pub returns-in_err-check_ranges : goal.returns-in_err-check_ranges
returns-in_err-check_ranges c =
    let is : c.from_residual-in_err-check_ranges.result ≡ Err c.in_err-check_ranges.field-0.0 = search rules in
    rw is
    (told_range c.args.raw.now c.args.constants c.in_ok-table.table.forms.items c.in_ok-table.ensures.table (sym c.if-not-sizes_fit.ensures) c.in_ok-table.ensures.answer (sym c.in_ok-check_uses.ensures) c.in_err-check_ranges.field-0.0 (sym c.in_err-check_ranges.ensures))

pub returns-in_err-check_sets : goal.returns-in_err-check_sets
returns-in_err-check_sets c =
    let is : c.from_residual-in_err-check_sets.result ≡ Err c.in_err-check_sets.field-0.0 = search rules in
    rw is
    (told_sets c.args.raw.now c.args.constants c.in_ok-table.table.forms.items c.in_ok-table.ensures.table (sym c.if-not-sizes_fit.ensures) c.in_ok-table.ensures.answer (sym c.in_ok-check_uses.ensures) (sym c.in_ok-check_ranges.ensures) c.in_err-check_sets.field-0.0 (sym c.in_err-check_sets.ensures))

pub invariant_of-result : goal.invariant_of-result
invariant_of-result c =
    let table = c.in_ok-table.table in
    let ps = table.forms.items in
    let n = length ps in
    let constants = c.args.constants in
    let s = sized_tells (length c.args.raw.now) constants (sym c.if-not-sizes_fit.ensures) in
    let some : 0 < n = omega (arith, s.0, ap length c.in_ok-table.ensures.table, length-map c.args.raw.now form_read) in
    let once = each_told NotPartOnce (part_once ps) n (sym c.in_ok-check_uses.ensures) in
    let ranged = each_told OutOfRange (range_kept ps constants) n (sym c.in_ok-check_ranges.ensures) in
    let agree = each_told SetsUnfit (sets_agree ps) n (sym c.in_ok-check_sets.ensures) in
    record {
      some = some;
      few_constants = s.2;
      once = once;
      levels_of = c.levels-levels.ensures;
      ranged = ranged;
      sets_of = c.sets-sets.ensures;
      rules = kept ps table.lower_parts once constants some ranged agree;
    }

pub returns : goal.returns
returns c =
    let is = c.in_ok-table.ensures.table in (
      told_admitted c.args.raw.now c.args.constants c.in_ok-table.table.forms.items c.in_ok-table.ensures.table (sym c.if-not-sizes_fit.ensures) c.in_ok-table.ensures.answer (sym c.in_ok-check_uses.ensures) (sym c.in_ok-check_ranges.ensures) (sym c.in_ok-check_sets.ensures),
      record {
        table = is;
        size = ap length is ∙ length-map c.args.raw.now form_read;
        constant_count = refl;
        forms = λ p l. read_form c.args.raw.now c.in_ok-table.ensures.answer p l ∙ ap (λ (t : List Form). Some (get_or t p Zero)) (sym is);
      },
    )
