use Rattle.laws.proofs.Bounded.{bounds}
use Rattle.laws.proofs.laws.bounds_law.Goals as goal

pub returns : goal.returns
returns c = bounds
