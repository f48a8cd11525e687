use Rattle.editing.proofs.Cases.{worked_drafts_lem}
use Rattle.editing.proofs.run_laws.worked_drafts.Goals as goal

pub returns : goal.returns
returns c = worked_drafts_lem
