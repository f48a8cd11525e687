use Rattle.expression.proofs.Lawfulness.{lawful}
use Rattle.expression.proofs.expression.Expression.count.Goals as goal

pub returns-clause-law : goal.returns-clause-law
returns-clause-law c = lawful c.args.self.now
