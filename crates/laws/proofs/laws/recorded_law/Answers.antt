use Rattle.laws.proofs.Recording.{recorded}
use Rattle.laws.proofs.laws.recorded_law.Goals as goal

pub returns : goal.returns
returns c = recorded
