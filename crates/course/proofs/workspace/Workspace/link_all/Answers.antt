use Rattle.std.proofs.Common.{◌≡◌, length, refl, arith, rules}
use Rattle.course.proofs.Loops.{going_set, going_past, going_stops_set, going_ends}
use Rattle.course.proofs.workspace.Workspace.link_all.Goals.{then-on+in_ok-add_arrow, else-on}
use Rattle.course.proofs.workspace.Workspace.link_all.Goals as goal

pub returns-in_err-add_arrow : goal.returns-in_err-add_arrow
returns-in_err-add_arrow c =
    let long : length c.args.set ≡ 8 = search rules in
    going_stops_set c.from_residual.result c.loop-marker.invariant (omega arith) c.if-on.true c.in_err-add_arrow.ensures c.from_residual.ensures.1

pub loop-marker-preserved : goal.loop-marker-preserved
loop-marker-preserved c =
    let long : length c.args.set ≡ 8 = search rules in
    elim c.if-on.branch [
      | then-on+in_ok-add_arrow w ↦ going_set c.loop-marker.invariant (omega arith) w.if-on.true w.in_ok-add_arrow.ensures w.self-is
      | else-on w ↦ going_past c.loop-marker.invariant (omega arith) w.if-on.false refl w.self-is
    ]

pub returns : goal.returns
returns c =
    let long : length c.args.set ≡ 8 = search rules in
    going_ends c.loop-marker.invariant (omega arith)
