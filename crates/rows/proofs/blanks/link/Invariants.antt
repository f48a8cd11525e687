use Rattle.std.proofs.Common.{◌≡◌, map, take}
use Rattle.walks.specs.Tables.{steps_of}
use Rattle.course.specs.Reach.{ends}
use Rattle.rows.specs.Rows.{blanks}
use Rattle.rows.proofs.blanks.link.Given as goal

abbrev pub invariant-loop-arrow : goal.invariant-loop-arrow
invariant-loop-arrow l = steps_of l.table ≡ map ends (blanks (take l.arrow-index l.arrows))
