use Rattle.std.proofs.Common.{◌+◌, ◌-◌, ◌++◌, ◌<◌, ◌≤◌, List, false, vec_items, sym, ap, ◌∙◌, subst, arith}
use Rattle.std.proofs.lemmas.List.{get_or-take, length-take}
use Rattle.std.proofs.lemmas.Result.{err_from_is_err_and}
use Rattle.walks.specs.declared.step_table.StepTable.{StepTable}
use Rattle.walks.specs.Reach.{lead}
use Rattle.walks.specs.Tables.{steps_of}
use Rattle.walks.specs.Visits.{Visiting}
use Rattle.rows.specs.Growing.{Grown}
use Rattle.rows.specs.Heads.{rows_by}
use Rattle.rows.specs.Rows.{rows_at}
use Rattle.rows.proofs.Adding.{rows_from, node_left, node_passed, some_more, over_some, nodes_all}
use Rattle.rows.proofs.Heading.{rows_marked}
use Rattle.rows.proofs.rows.Rows.list_marked.Goals as goal
use Rattle.rows.proofs.rows.Rows.list_marked.Goals.{then-is_shown+in_ok-list_node, else-is_shown}

pub returns-in_err-list_node : goal.returns-in_err-list_node
returns-in_err-list_node c =
    let arrows = c.args.arrows.now in
    let shown = c.args.shown.now in
    let i = c.loop-node.node in
    let n = c.args.nodes in
    let near = c.marks.result.now in
    let l : i < n = omega (arith, c.loop-node-test.true, length-take n shown) in
    let e = c.in_err-list_node.ensures.rows in
    let p = err_from_is_err_and c.from_residual.result c.from_residual.ensures.1 in
    subst (λ r. Grown (vec_items c.args.self.now.rows) (rows_from arrows shown 0 n) (vec_items c.list_node.new.self.rows) r) (sym p.1) (
      p.2 ∙ e.0,
      over_some (vec_items c.loop-node.self.rows) (rows_by near i arrows) (rows_at arrows i) (rows_from arrows shown (i + 1) (n - (i + 1))) (vec_items c.args.self.now.rows ++ rows_from arrows shown 0 n) (rows_from arrows shown i (n - i))
          (node_left arrows shown n i l (sym (get_or-take n shown i false l) ∙ c.if-is_shown.true))
          (rows_marked arrows i near c.requires.fit (c.marks.ensures ∙ ap (λ (s : Visiting). s.marks) c.walk_again.ensures.after ∙ ap (λ (t : StepTable). lead 1024 (steps_of t) i) c.loop-node.invariant.blanks ∙ ap (λ s. lead 1024 s i) c.requires.linked))
          c.loop-node.invariant.rows e.1,
    )

pub loop-node-preserved : goal.loop-node-preserved
loop-node-preserved c =
    let arrows = c.args.arrows.now in
    let shown = c.args.shown.now in
    let i = c.loop-node.node in
    let n = c.args.nodes in
    let l : i < n = omega (arith, c.loop-node-test.true, length-take n shown) in
    let rest = rows_from arrows shown (i + 1) (n - (i + 1)) in
    elim c.if-is_shown.branch [
      | then-is_shown+in_ok-list_node w ↦ record {
        rows =
            ap (λ s. vec_items s.rows ++ rest) w.self-is
            ∙ some_more (vec_items c.loop-node.self.rows) (rows_by w.marks.result.now i arrows) (rows_at arrows i) rest (vec_items c.args.self.now.rows ++ rows_from arrows shown 0 n) (rows_from arrows shown i (n - i))
            (node_left arrows shown n i l (sym (get_or-take n shown i false l) ∙ w.if-is_shown.true))
            (rows_marked arrows i w.marks.result.now c.requires.fit (w.marks.ensures ∙ ap (λ (s : Visiting). s.marks) w.walk_again.ensures.after ∙ ap (λ (t : StepTable). lead 1024 (steps_of t) i) c.loop-node.invariant.blanks ∙ ap (λ s. lead 1024 s i) c.requires.linked))
            c.loop-node.invariant.rows (vec_items w.list_node.new.self.rows) w.in_ok-list_node.ensures.rows.0;
        blanks = ap (λ s. s.blanks) w.self-is ∙ w.list_node.ensures.blanks ∙ c.loop-node.invariant.blanks;
      }
      | else-is_shown w ↦ record {
        rows =
            ap (λ s. vec_items s.rows ++ rest) w.self-is
            ∙ sym (ap (λ (left : List _). vec_items c.loop-node.self.rows ++ left) (node_passed arrows shown n i l (sym (get_or-take n shown i false l) ∙ w.if-is_shown.false))) ∙ c.loop-node.invariant.rows;
        blanks = ap (λ s. s.blanks) w.self-is ∙ c.loop-node.invariant.blanks;
      }
    ]

pub returns : goal.returns
returns c =
    let n = c.args.nodes in
    let last : n ≤ c.loop-node.node = omega (arith, c.loop-node-test.false, length-take n c.args.shown.now, c.told-shown, c.requires.nodes) in (
      nodes_all c.args.arrows.now c.args.shown.now n c.loop-node.node (vec_items c.loop-node.self.rows) (vec_items c.args.self.now.rows ++ rows_from c.args.arrows.now c.args.shown.now 0 n) last c.loop-node.invariant.rows,
      omega (arith, c.loop-node.self.few, c.loop-node.self.rows.ok.0),
    )
