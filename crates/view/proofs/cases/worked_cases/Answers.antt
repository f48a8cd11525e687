use Rattle.view.proofs.Examples.{worked_cases}
use Rattle.view.proofs.cases.worked_cases.Goals as goal

pub returns-clause-cases : goal.returns-clause-cases
returns-clause-cases c = worked_cases
