use Rattle.std.proofs.Common.{◌≡◌, map, vec_len, sym, ap, ◌∙◌, arith, rules}
use Rattle.course.specs.Reach.{ends}
use Rattle.course.proofs.workspace.Workspace.new.Goals as goal

pub invariant_of-result : goal.invariant_of-result
invariant_of-result c =
    let a : vec_len c.in_ok-arrows.arrows ≡ 0 = search rules in
    let o : vec_len c.in_ok-outs.outs ≡ 0 = search rules in
    record {
      node_room = search rules;
      arrow_room = search rules;
      frame_room = search rules;
      comparison_room = search rules;
      out_room = search rules;
      nodes_within = search rules;
      arrows_within = search rules;
      outs_within = search rules;
      out_nodes = λ k h. absurd (omega (arith, o, h));
      out_markers = λ k h. absurd (omega (arith, o, h));
      tails = λ k h. absurd (omega (arith, a, h));
      heads = λ k h. absurd (omega (arith, a, h));
      linked = c.in_ok-steps.ensures ∙ sym (ap (map ends) c.in_ok-arrows.ensures.items);
    }
