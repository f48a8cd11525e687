use Rattle.std.proofs.Common.{◌<◌, vec_items, vec_len, arith, rules}
use Rattle.course.specs.declared.environment.Out.{Out}
use Rattle.course.specs.Outs.{no_out}
use Rattle.course.proofs.Maps.{every_cut}
use Rattle.course.proofs.workspace.Workspace.cut_outs.Goals as goal

pub invariant_of-self-clause-out_nodes : goal.invariant_of-self-clause-out_nodes
invariant_of-self-clause-out_nodes c =
    let w = c.args.self.now in
    let v = c.drop-drain.new.self.0 in
    λ k h. every_cut no_out (λ (x : Out). x.node < vec_len w.nodes) (vec_items w.outs) (vec_items v) c.args.base c.args.mid c.requires.order (omega (arith, c.requires.end, w.outs.ok.0)) (search rules)
    (λ i l. w.out_nodes i (omega (arith, l, w.outs.ok.0))) k (omega (arith, h, v.ok.0))

pub invariant_of-self-clause-out_markers : goal.invariant_of-self-clause-out_markers
invariant_of-self-clause-out_markers c =
    let w = c.args.self.now in
    let v = c.drop-drain.new.self.0 in
    λ k h. every_cut no_out (λ (x : Out). x.marker < 8) (vec_items w.outs) (vec_items v) c.args.base c.args.mid c.requires.order (omega (arith, c.requires.end, w.outs.ok.0)) (search rules)
    (λ i l. w.out_markers i (omega (arith, l, w.outs.ok.0))) k (omega (arith, h, v.ok.0))
