use Rattle.std.proofs.Common.{◌≡◌, ◌-◌, ◌++◌, vec_items}
use Rattle.rows.proofs.Adding.{rows_from}
use Rattle.rows.proofs.rows.Rows.list_marked.Given as goal

abbrev pub invariant-loop-node : goal.invariant-loop-node
invariant-loop-node l = record {
  rows : vec_items l.self.rows ++ rows_from l.arrows l.shown l.node (l.nodes - l.node) ≡ vec_items l.initial.self.rows ++ rows_from l.arrows l.shown 0 l.nodes;
  blanks : l.self.blanks ≡ l.initial.self.blanks;
}
