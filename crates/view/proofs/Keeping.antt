-- The laws of views, each proved in the crate of its subject. Assumes nothing.
use Rattle.std.proofs.Common.{◌≡◌, Bool, true, ◌↔◌}
use Rattle.laws.proofs.Bounded.{bounds}
use Rattle.laws.proofs.HubMaking.{hubs_exact}
use Rattle.laws.proofs.HubsStanding.{hubs_stand}
use Rattle.laws.proofs.Labelling.{classes_stand, recorded_meanings, same_course_meanings}
use Rattle.laws.proofs.Members.{members_exact, nodes_exact, arrows_exact}
use Rattle.laws.proofs.Reaching.{reached_exact}
use Rattle.laws.proofs.Recording.{recorded, same_course, only_adds}
use Rattle.laws.proofs.Recursing.{recursion_rule, hub_same}
use Rattle.rows.proofs.Showing.{rows_law}
use Rattle.view.specs.Laws.{RunLaws, LabelLaws}

pub run_laws : RunLaws
run_laws =
    record {
      recorded = recorded;
      same_course = same_course;
      bounds = bounds;
      only_adds = only_adds;
      reached = reached_exact;
      members = members_exact;
      nodes = nodes_exact;
      arrows = arrows_exact;
      recursion = recursion_rule;
      hub_numbers = hub_same;
      hubs = hubs_exact;
      hubs_stand = hubs_stand;
      rows = rows_law;
    }

pub label_laws : {L M : Type 0} (alike : L → L → Bool) (meaning : L → M) →
    ((x y : L) → (alike x y ≡ true) ↔ (meaning x ≡ meaning y)) → LabelLaws alike meaning
label_laws alike meaning exact =
    record {
      classes = classes_stand alike meaning exact;
      recorded = recorded_meanings alike meaning exact;
      same_course = same_course_meanings alike meaning exact;
    }
