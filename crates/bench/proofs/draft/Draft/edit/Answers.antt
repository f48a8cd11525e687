use Rattle.std.proofs.Common.{◌≡◌, sym, ◌∙◌, rules}
use Rattle.std.specs.List.{slice_get}
use Rattle.bench.proofs.Stored.{copied_item, no_row, no_label, an_edit}
use Rattle.bench.proofs.draft.Draft.edit.Goals as goal

pub returns-in_err-row : goal.returns-in_err-row
returns-in_err-row g c =
    let same : c.deref.result.now ≡ c.args.self.now.rows.items = search rules in
    let row : c.copied.result ≡ slice_get c.args.self.now.rows.items c.args.index = c.copied.ensures ∙ copied_item _ _ _ (rw same at c.get.ensures.lookup) in
    c.from_residual.ensures ∙ sym (no_row c.args.rows.now.rows.items c.args.self.now.rows.items c.args.asked.now c.args.index (sym row ∙ c.in_err-row.was))

pub returns-in_err-asked : goal.returns-in_err-asked
returns-in_err-asked g c =
    let asked : c.copied-2.result ≡ slice_get c.args.asked.now c.args.index = c.copied-2.ensures ∙ copied_item _ _ _ c.get-2.ensures.lookup in
    c.from_residual-in_err-asked.ensures
    ∙ sym (no_label c.args.rows.now.rows.items c.args.self.now.rows.items c.args.asked.now c.args.index (sym asked ∙ c.in_err-asked.was))

pub returns : goal.returns
returns g c =
    let same : c.deref.result.now ≡ c.args.self.now.rows.items = search rules in
    let row : c.copied.result ≡ slice_get c.args.self.now.rows.items c.args.index = c.copied.ensures ∙ copied_item _ _ _ (rw same at c.get.ensures.lookup) in
    let asked : c.copied-2.result ≡ slice_get c.args.asked.now c.args.index = c.copied-2.ensures ∙ copied_item _ _ _ c.get-2.ensures.lookup in
    let there = an_edit c.args.rows.now.rows.items c.args.self.now.rows.items c.args.asked.now c.args.index c.in_ok-row.row c.in_ok-asked.asked
    (sym row ∙ c.in_ok-row.was) (sym asked ∙ c.in_ok-asked.was) in
    search rules
