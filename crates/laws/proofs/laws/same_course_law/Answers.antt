use Rattle.laws.proofs.Recording.{same_course}
use Rattle.laws.proofs.laws.same_course_law.Goals as goal

pub returns : goal.returns
returns c = same_course
