use Rattle.std.proofs.Common.{rules}
use Rattle.bench.proofs.Stored.{undone_length}
use Rattle.bench.proofs.bench.Bench.commits.Goals as goal

pub returns : goal.returns
returns g c =
    let undone = undone_length c.args.self.now.history c.args.tables.now.history.now in
    search rules
