-- What a recursion takes as reached is exactly what arrows reach. Assumes nothing.
--
--   ReachedExact   of n nodes, those flagged as reached from r are exactly those that arrows, of any origin, lead to
--                   from r in any number of steps, r itself among them
use Rattle.std.specs.Prelude.{◌≡◌, ℕ, ◌<◌, true, false, ◌↔◌, List, map, slice_index_or}
use Rattle.course.specs.declared.course.Arrow.{Arrow}
use Rattle.walks.specs.Reach.{Reaches}
use Rattle.course.specs.Reach.{ends, reached}

abbrev pub ReachedExact : Type 0
ReachedExact =
    (n : ℕ) (arrows : List Arrow) (r v : ℕ) → v < n →
    (slice_index_or (reached n arrows r) v false ≡ true) ↔ Reaches (map ends arrows) r v
