use Rattle.std.proofs.Common.{◌≡◌, map, vec_len, sym, ap, ◌∙◌, arith}
use Rattle.course.specs.Reach.{ends}
use Rattle.course.proofs.workspace.Workspace.clear.Goals as goal

pub invariant_of-self : goal.invariant_of-self
invariant_of-self c =
    let w = c.args.self.now in
    let a : vec_len c.clear-2.new.self ≡ 0 = c.clear-2.ensures.len in
    let o : vec_len c.clear-5.new.self ≡ 0 = c.clear-5.ensures.len in
    record {
      node_room = omega (arith, w.node_room, c.clear.ensures.capacity);
      arrow_room = omega (arith, w.arrow_room, c.clear-2.ensures.capacity);
      frame_room = omega (arith, w.frame_room, c.clear-3.ensures.capacity);
      comparison_room = omega (arith, w.comparison_room, c.clear-4.ensures.capacity);
      out_room = omega (arith, w.out_room, c.clear-5.ensures.capacity);
      nodes_within = omega (arith, c.clear.ensures.len);
      arrows_within = omega (arith, a);
      outs_within = omega (arith, o, c.clear.ensures.len);
      out_nodes = λ k h. absurd (omega (arith, o, h));
      out_markers = λ k h. absurd (omega (arith, o, h));
      tails = λ k h. absurd (omega (arith, a, h));
      heads = λ k h. absurd (omega (arith, a, h));
      linked = c.clear-6.ensures ∙ sym (ap (map ends) c.clear-2.ensures.items);
    }
