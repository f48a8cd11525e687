-- The arrows that lead on from a node, told by marks of the nodes that blank arrows reach from it. Assumes nothing.
--
--   leads_by m a        whether the arrow a is not blank and its tail is marked in m
--   heads_by m arrows   the heads of the arrows that lead on
--   rows_by m u arrows  the rows that the node u has by the arrows that lead on
use Rattle.std.specs.Prelude.{ℕ, Bool, false, not, ◌&&◌, List, map, filter, slice_index_or}
use Rattle.course.specs.declared.course.Arrow.{Arrow}
use Rattle.course.specs.Course.{is_blank_origin}
use Rattle.rows.specs.declared.row.Row.{Row}
use Rattle.rows.specs.Rows.{row_of}

abbrev pub leads_by : List Bool → Arrow → Bool
leads_by m a = not (is_blank_origin a.origin) && slice_index_or m a.tail false

abbrev pub heads_by : List Bool → List Arrow → List ℕ
heads_by m arrows = map (λ (a : Arrow). a.head) (filter (leads_by m) arrows)

abbrev pub rows_by : List Bool → ℕ → List Arrow → List Row
rows_by m u arrows = map (row_of u) (filter (leads_by m) arrows)
