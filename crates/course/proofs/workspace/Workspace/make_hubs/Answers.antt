use Rattle.std.proofs.Common.{refl}
use Rattle.course.proofs.Loops.{going_set, going_past, going_stops_set, going_ends}
use Rattle.course.proofs.workspace.Workspace.make_hubs.Goals.{then-marked+in_ok-make_markers, else-marked}
use Rattle.course.proofs.workspace.Workspace.make_hubs.Goals as goal

pub returns-in_err-make_markers : goal.returns-in_err-make_markers
returns-in_err-make_markers c =
    going_stops_set c.from_residual.result c.loop-node.invariant c.loop-node-test.true c.if-marked.true c.in_err-make_markers.ensures c.from_residual.ensures.1

pub loop-node-preserved : goal.loop-node-preserved
loop-node-preserved c =
    elim c.if-marked.branch [
      | then-marked+in_ok-make_markers w ↦ going_set c.loop-node.invariant c.loop-node-test.true w.if-marked.true w.in_ok-make_markers.ensures w.self-is
      | else-marked w ↦ going_past c.loop-node.invariant c.loop-node-test.true w.if-marked.false refl w.self-is
    ]

pub returns : goal.returns
returns c =
    going_ends c.loop-node.invariant c.loop-node-test.false
