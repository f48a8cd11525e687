use Rattle.std.proofs.Common.{◌≡◌, ℕ, ◌+◌, ◌++◌, ◌∷◌, [], ◌<◌, List, map, length, vec_items, vec_len, sym, ap, ◌∙◌, arith}
use Rattle.std.proofs.lemmas.List.{map-append, length-map}
use Rattle.walks.specs.Tables.{steps_of}
use Rattle.walks.proofs.Tables.{added}
use Rattle.course.specs.declared.course.Arrow.{Arrow}
use Rattle.course.specs.Reach.{ends, lost}
use Rattle.course.proofs.Pushes.{every_push}
use Rattle.course.proofs.workspace.Workspace.push_arrow.Goals as goal

pub invariant_of-self : goal.invariant_of-self
invariant_of-self c =
    let w = c.args.self.now in
    let a = c.args.arrow in
    let xs = vec_items w.arrows in
    let ys = vec_items c.push_reserved.new.self in
    let n = vec_len w.arrows in
    let l = vec_len c.push_reserved.new.self in
    let e = c.push_reserved.ensures.items in
    let hl : l ≡ n + 1 = c.push_reserved.ensures.len in
    let few : length (steps_of w.steps) < 2048 = omega (arith, ap length w.linked ∙ length-map xs ends, w.arrows.ok.0, c.requires.1.1) in
    let more = added (steps_of w.steps) (steps_of c.add.new.self) c.add.result a.tail a.head c.add.ensures.value c.add.ensures.steps few (omega (arith, c.requires.0, w.nodes_within)) (omega (arith, c.requires.1.0, w.nodes_within)) in
    record {
      node_room = omega (arith, w.node_room);
      arrow_room = omega (arith, w.arrow_room, c.push_reserved.ensures.capacity);
      frame_room = omega (arith, w.frame_room);
      comparison_room = omega (arith, w.comparison_room);
      out_room = omega (arith, w.out_room);
      nodes_within = omega (arith, w.nodes_within);
      arrows_within = omega (arith, hl);
      outs_within = omega (arith, w.outs_within);
      out_nodes = w.out_nodes;
      out_markers = w.out_markers;
      tails = every_push lost (λ (x : Arrow). x.tail < vec_len w.nodes) xs ys a n l e w.arrows.ok.0 hl w.tails c.requires.0;
      heads = every_push lost (λ (x : Arrow). x.head < vec_len w.nodes) xs ys a n l e w.arrows.ok.0 hl w.heads c.requires.1.0;
      linked = more ∙ ap (λ (s : List (ℕ × ℕ)). s ++ ends a ∷ []) w.linked ∙ sym (ap (map ends) e ∙ map-append ends xs (a ∷ []));
    }
