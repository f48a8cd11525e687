use Rattle.expression.proofs.Examples.{worked}
use Rattle.expression.proofs.cases.worked_cases.Goals as goal

pub returns-clause-cases : goal.returns-clause-cases
returns-clause-cases c = worked
