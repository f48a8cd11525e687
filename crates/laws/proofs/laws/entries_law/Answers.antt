use Rattle.laws.proofs.Recording.{only_adds}
use Rattle.laws.proofs.laws.entries_law.Goals as goal

pub returns : goal.returns
returns c = only_adds
