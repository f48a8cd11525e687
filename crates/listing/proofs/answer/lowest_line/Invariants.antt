use Rattle.std.proofs.Common.{map, Some}
use Rattle.kinds.specs.Classes.{Absent}
use Rattle.listing.specs.Answers.{meaning_of}
use Rattle.listing.proofs.answer.lowest_line.Given as goal

abbrev pub invariant-loop-i : goal.invariant-loop-i
invariant-loop-i g l = Absent (map (meaning_of g.L.Label.meaning) l.answers) (Some (g.L.Label.meaning l.label)) l.i
