use Rattle.std.proofs.Common.{◌≡◌, ℕ, ◌<◌, List, [], ◌∷◌, ◌++◌, length, get_or, take, Err, Some, None, sym, refl, ap, ◌∙◌, ap₂, subst, arith, rules}
use Rattle.std.proofs.lemmas.List.{map_more, length-map, length-take-le}
use Rattle.std.proofs.Math.Seq.{take-length}
use Rattle.expression.specs.declared.form.Form.{Form}
use Rattle.expression.specs.declared.form.Form.TheVariants.{Zero}
use Rattle.expression.specs.declared.refusal.Refusal.TheVariants.{IllFormed}
use Rattle.expression.specs.Raw.{form_read}
use Rattle.expression.specs.Forms.{lower}
use Rattle.expression.specs.Admission.{table_read, well_formed, lowest, told}
use Rattle.expression.proofs.Lowest.{lowest_none, lowest_more, lowest_found}
use Rattle.expression.proofs.Forming.{well_formed_by, read_lower, read_some, read_none}
use Rattle.expression.proofs.table.Table.read.Goals as goal

pub loop-place-init : goal.loop-place-init
loop-place-init c = (c.new-forms.ensures, lowest_none (well_formed c.args.raw.now))

pub returns-in_err-form : goal.returns-in_err-form
returns-in_err-form c =
    let raw = c.args.raw.now in
    let i = c.loop-place.place in
    let h : i < length raw = omega arith in
    let none : None ≡ c.form_at.result = search rules in
    let found = lowest_found (well_formed raw) i (length raw) c.loop-place.invariant.1 (well_formed_by raw i _ _ h refl ∙ read_none i _ (none ∙ c.form_at.ensures)) h in
    let is : c.from_residual.result ≡ Err (IllFormed i) = search rules in
    record { answer = rw is (ap (told IllFormed) found); table = rw is tt }

pub push-requires : goal.push-requires
push-requires c =
    let raw = c.args.raw.now in
    let i = c.loop-place.place in
    omega (arith, ap length c.loop-place.invariant.0, length-map (take i raw) form_read, length-take-le i raw (omega arith), c.requires)

pub loop-place-preserved : goal.loop-place-preserved
loop-place-preserved c =
    let raw = c.args.raw.now in
    let i = c.loop-place.place in
    let h : i < length raw = omega arith in
    let some : Some c.in_ok-form.form ≡ c.form_at.result = search rules in
    let read = read_some i _ c.in_ok-form.form (some ∙ c.form_at.ensures) in (
      c.push.ensures.items ∙ ap₂ (λ (qs : List Form) (q : Form). qs ++ q ∷ []) c.loop-place.invariant.0 read.1 ∙ sym (map_more form_read raw i _ h),
      lowest_more (well_formed raw) i c.loop-place.invariant.1 (well_formed_by raw i _ _ h refl ∙ read.0),
    )

-- what the walk comes to
pub invariant_of-result : goal.invariant_of-result
invariant_of-result c =
    let raw = c.args.raw.now in
    let loop = c.loop-place in
    let e : loop.place ≡ length raw = omega arith in
    let none = subst (λ (n : ℕ). lowest n (well_formed raw) ≡ None) e loop.invariant.1 in
    let is = loop.invariant.0 ∙ ap (λ (n : ℕ). table_read (take n raw)) e ∙ ap table_read (take-length raw) in
    record {
      few = omega (arith, ap length is, length-map raw form_read, c.requires);
      lower_parts = λ k. ap (λ (ps : List Form). lower k (get_or ps k Zero)) is ∙ read_lower raw none k;
    }

pub returns : goal.returns
returns c =
    let raw = c.args.raw.now in
    let loop = c.loop-place in
    let e : loop.place ≡ length raw = omega arith in
    let none = subst (λ (n : ℕ). lowest n (well_formed raw) ≡ None) e loop.invariant.1 in
    record {
      answer = ap (told IllFormed) none;
      table = loop.invariant.0 ∙ ap (λ (n : ℕ). table_read (take n raw)) e ∙ ap table_read (take-length raw);
    }
