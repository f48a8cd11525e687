use Rattle.std.proofs.Common.{◌≡◌, ◌<◌, rules}
use Rattle.arrayvec.specs.ArrayVec.{array_vec_len}
use Rattle.bench.proofs.DraftEdits.{has_room, replaced, no_room, has_place, more}
use Rattle.bench.proofs.draft.Draft.put.Goals as goal

pub returns-in-Ok-clause-answer : goal.returns-in-Ok-clause-answer
returns-in-Ok-clause-answer g c =
    let same : c.deref.result.now ≡ c.args.self.now.rows.items = search rules in
    λ items. has_room items c.args.self.now c.args.asked.now c.requires c.args.row c.in-Ok.at (rw same at c.in-Ok.ensures)

pub returns-in-Ok-clause-ok : goal.returns-in-Ok-clause-ok
returns-in-Ok-clause-ok g c =
    let same : c.deref.result.now ≡ c.args.self.now.rows.items = search rules in
    λ items. replaced items c.args.self.now c.args.asked.now c.requires c.args.row c.in-Ok.at (rw same at c.in-Ok.ensures) c.args.label

pub returns-in-Err-clause-answer : goal.returns-in-Err-clause-answer
returns-in-Err-clause-answer g c =
    let same : c.deref.result.now ≡ c.args.self.now.rows.items = search rules in
    let full : array_vec_len c.args.self.now.rows ≡ 32 = search rules in
    λ items. no_room items c.args.self.now c.args.asked.now c.requires c.args.row c.in-Err.field-0 (rw same at c.in-Err.ensures) full

pub returns-in-Err-2-clause-answer : goal.returns-in-Err-2-clause-answer
returns-in-Err-2-clause-answer g c =
    let same : c.deref.result.now ≡ c.args.self.now.rows.items = search rules in
    let room : array_vec_len c.args.self.now.rows < 32 = search rules in
    λ items. has_place items c.args.self.now c.args.asked.now c.requires c.args.row _ (rw same at c.in-Err-2.ensures) room

pub returns-in-Err-2-clause-ok : goal.returns-in-Err-2-clause-ok
returns-in-Err-2-clause-ok g c =
    let named : c.in-Err.field-0 ≡ c.in-Err-2.at = search rules in
    let same : c.deref.result.now ≡ c.args.self.now.rows.items = search rules in
    λ items. more items c.args.self.now c.args.asked.now c.requires c.args.row c.in-Err.field-0 (rw (same, ← named) at c.in-Err-2.ensures) c.args.label _ _
    c.insert.ensures.len c.insert.ensures.items (rw c.len.ensures.value at c.insert_at.ensures)
