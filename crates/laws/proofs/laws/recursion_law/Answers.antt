use Rattle.laws.proofs.Members.{members_exact, nodes_exact, arrows_exact}
use Rattle.laws.proofs.Recursing.{recursion_rule, hub_same}
use Rattle.laws.proofs.HubMaking.{hubs_exact}
use Rattle.laws.proofs.HubsStanding.{hubs_stand}
use Rattle.laws.proofs.laws.recursion_law.Goals as goal

pub returns : goal.returns
returns c =
    record {
      members = members_exact;
      nodes = nodes_exact;
      arrows = arrows_exact;
      rule = recursion_rule;
      numbers = hub_same;
      hubs = hubs_exact;
      stand = hubs_stand;
    }
