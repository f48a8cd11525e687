use Rattle.std.proofs.Common.{sym, ◌∙◌, rules}
use Rattle.bench.specs.Reading.{rows_of, lists_of}
use Rattle.bench.proofs.Stored.{asked_long, edits_counted}
use Rattle.bench.proofs.bench.Bench.draft.Goals as goal

pub returns : goal.returns
returns g c =
    let b = c.args.self.now in
    let t = lists_of c.args.tables.now in
    let counted = edits_counted (rows_of b) b.draft t.asked (asked_long b t _ (sym c.ready.ensures ∙ c.in_ok-ready.was)) in
    search rules
