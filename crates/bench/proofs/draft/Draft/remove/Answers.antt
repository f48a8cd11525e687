use Rattle.std.proofs.Common.{◌≡◌, rules}
use Rattle.bench.proofs.DraftEdits.{gone, same_edits}
use Rattle.bench.proofs.draft.Draft.remove.Goals as goal

pub returns-in-Ok : goal.returns-in-Ok
returns-in-Ok g c =
    let same : c.deref.result.now ≡ c.args.self.now.rows.items = search rules in
    λ items. gone items c.args.self.now c.args.asked.now c.requires c.args.row c.in-Ok.at (rw same at c.in-Ok.ensures) _ _
    c.remove.ensures.len c.remove.ensures.items (rw c.len.ensures.value at c.remove_at.ensures.taken)

pub returns-in_default : goal.returns-in_default
returns-in_default g c =
    let same : c.deref.result.now ≡ c.args.self.now.rows.items = search rules in
    λ items. same_edits items c.args.self.now c.args.asked.now c.requires c.args.row c.in_default.field-0 (rw same at c.in_default.ensures)
