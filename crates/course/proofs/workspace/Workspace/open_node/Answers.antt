use Rattle.std.proofs.Common.{◌<◌, length, vec_items, vec_len, ap, arith}
use Rattle.course.specs.declared.environment.Out.{Out}
use Rattle.course.specs.Outs.{no_out}
use Rattle.course.specs.Forward.{out}
use Rattle.course.specs.View.{course_of}
use Rattle.course.proofs.Pushes.{every_push}
use Rattle.course.proofs.HubsIn.{plain_adds}
use Rattle.course.proofs.workspace.Workspace.open_node.Goals as goal

pub push_reserved-requires : goal.push_reserved-requires
push_reserved-requires c =
    let w = c.args.self.now in
    let v = c.add_plain.new.self in
    let t = c.in_ok-node.ensures.told in
    let more = plain_adds c.args.rule.place c.args.rule.frame 0 (course_of w) (course_of v) c.in_ok-node.node t.0 in
    omega (arith, v.out_room, v.nodes_within, w.outs_within, ap length t.1, w.outs.ok.0, v.outs.ok.0, more, w.nodes.ok.0, v.nodes.ok.0)

pub invariant_of-self-clause-outs_within : goal.invariant_of-self-clause-outs_within
invariant_of-self-clause-outs_within c =
    let w = c.args.self.now in
    let v = c.add_plain.new.self in
    let t = c.in_ok-node.ensures.told in
    let more = plain_adds c.args.rule.place c.args.rule.frame 0 (course_of w) (course_of v) c.in_ok-node.node t.0 in
    omega (arith, w.outs_within, ap length t.1, w.outs.ok.0, v.outs.ok.0, more, w.nodes.ok.0, v.nodes.ok.0, c.push_reserved.ensures.len)

pub invariant_of-self-clause-out_nodes : goal.invariant_of-self-clause-out_nodes
invariant_of-self-clause-out_nodes c =
    let v = c.add_plain.new.self in
    let s = c.push_reserved.new.self in
    every_push no_out (λ (x : Out). x.node < vec_len v.nodes) (vec_items v.outs) (vec_items s) (out c.in_ok-node.node c.args.marker) (vec_len v.outs) (vec_len s) c.push_reserved.ensures.items v.outs.ok.0 c.push_reserved.ensures.len v.out_nodes c.in_ok-node.ensures.told.3

pub invariant_of-self-clause-out_markers : goal.invariant_of-self-clause-out_markers
invariant_of-self-clause-out_markers c =
    let v = c.add_plain.new.self in
    let s = c.push_reserved.new.self in
    every_push no_out (λ (x : Out). x.marker < 8) (vec_items v.outs) (vec_items s) (out c.in_ok-node.node c.args.marker) (vec_len v.outs) (vec_len s) c.push_reserved.ensures.items v.outs.ok.0 c.push_reserved.ensures.len v.out_markers c.requires
