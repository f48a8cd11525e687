use Rattle.editing.proofs.Simulation.{run_law_lem}
use Rattle.editing.proofs.run_laws.run_law.Goals as goal

pub returns : goal.returns
returns g c = run_law_lem g.L.Label.alike g.L.Label.meaning g.met.L.Label.exact
