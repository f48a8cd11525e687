use Rattle.std.proofs.Common.{take, vec_items, vec_len, ap, ◌∙◌}
use Rattle.walks.specs.Reach.{lead}
use Rattle.course.specs.Reach.{reached}
use Rattle.course.proofs.Walks.{reached_front}
use Rattle.course.proofs.workspace.Workspace.find_hubs.Goals as goal

pub returns : goal.returns
unfolding reached
returns c =
    let w = c.args.self.now in
    let n = c.number_hubs.ensures in
    record {
      place = n.place;
      frame = n.frame;
      set = n.set;
      first = n.first ∙ c.requires.1;
      nodes = n.nodes ∙ ap (λ k. take k c.walk.result) c.requires.1 ∙ ap (take (vec_len w.nodes)) (c.walk.ensures.marks ∙ ap (λ s. lead 1024 s c.args.root) w.linked)
          ∙ reached_front (vec_items w.arrows) c.args.root (vec_len w.nodes) 1024 w.nodes_within;
    }
