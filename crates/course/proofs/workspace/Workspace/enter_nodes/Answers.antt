use Rattle.std.proofs.Common.{[], ap, ◌∙◌, arith}
use Rattle.course.specs.View.{with_node}
use Rattle.course.proofs.Openings.{source_node, nodes_more}
use Rattle.course.proofs.workspace.Workspace.enter_nodes.Goals as goal

pub loop-stands-preserved : goal.loop-stands-preserved
loop-stands-preserved c =
    let i = c.loop-stands.stands in (
      c.push_node.ensures.items ∙ ap (with_node (source_node i)) c.loop-stands.invariant.0
          ∙ ap (λ ns. record { nodes = ns; arrows = []; frames = []; comparisons = [] }) (nodes_more i),
      c.push_node.ensures.same ∙ c.loop-stands.invariant.1,
      omega (arith, c.push_node.ensures.len, c.loop-stands.invariant.2),
    )
