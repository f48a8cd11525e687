use Rattle.std.proofs.Common.{◌≡◌, ◌++◌, drop, vec_items}
use Rattle.rows.specs.Heads.{rows_by}
use Rattle.rows.proofs.rows.Rows.list_node.Given as goal

abbrev pub invariant-loop-arrow : goal.invariant-loop-arrow
invariant-loop-arrow l = record {
  rows : vec_items l.self.rows ++ rows_by l.near l.node (drop l.arrow-index l.arrows) ≡ vec_items l.initial.self.rows ++ rows_by l.near l.node l.arrows;
  blanks : l.self.blanks ≡ l.initial.self.blanks;
}
