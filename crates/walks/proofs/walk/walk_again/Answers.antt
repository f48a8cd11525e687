use Rattle.std.proofs.Common.{◌≡◌, ◌↔◌, Bool, true, false, List, get_or, sym, ap, subst}
use Rattle.walks.specs.Reach.{Reaches}
use Rattle.walks.specs.Visits.{Visiting}
use Rattle.walks.proofs.Walking.{lead_reached}
use Rattle.walks.proofs.walk.walk_again.Goals as goal

pub returns-clause-reached : goal.returns-clause-reached
returns-clause-reached g c = λ v l. subst (λ (m : List Bool). (get_or m v false ≡ true) ↔ Reaches (g.S.Steps.steps c.args.steps.now) c.args.root v) (sym (ap (λ (s : Visiting). s.marks) c.spread.ensures)) (lead_reached 1024 (g.S.Steps.steps c.args.steps.now) c.args.root v l)
