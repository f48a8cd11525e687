use Rattle.laws.proofs.Reaching.{reached_exact}
use Rattle.laws.proofs.laws.reached_law.Goals as goal

pub returns : goal.returns
returns c = reached_exact
