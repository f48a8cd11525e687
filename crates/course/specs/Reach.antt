-- What arrows reach. Assumes nothing.
--
--   ends             the tail and the head of an arrow, which is a step
--   reached n as r   for each of the first n nodes, whether it is r or the arrows as lead to it from r
--   lost             the arrow that stands past the end of a list
use Rattle.std.specs.Prelude.{ℕ, Bool, List, map}
use Rattle.walks.specs.Reach.{lead}
use Rattle.course.specs.declared.course.Arrow.{Arrow}
use Rattle.course.specs.declared.course.Origin.TheVariants.{Blank}

abbrev pub ends : Arrow → ℕ × ℕ
ends a = (a.tail, a.head)

unfoldable pub reached : ℕ → List Arrow → ℕ → List Bool
reached n arrows r = lead n (map ends arrows) r

abbrev pub lost : Arrow
lost = record { tail = 0; head = 0; origin = Blank; place = 64; frame = 0 }
