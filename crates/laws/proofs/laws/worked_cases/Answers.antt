use Rattle.laws.proofs.Cabinets.{worked_courses}
use Rattle.laws.proofs.laws.worked_cases.Goals as goal

pub returns : goal.returns
returns c = record { courses = worked_courses }
