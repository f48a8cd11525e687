-- How the rows of arrows are listed, or refused. Assumes nothing.
--
--   fits arrows n root        whether there are at most 1,024 nodes and 2,048 arrows, and the root and both ends of every
--                             arrow are among the n nodes
--   listing arrows n root     what is to be listed: the rows, or the fault: Unfit where the arrows, the nodes and the root
--                             do not fit, and TooMany where there are more than 1,024 rows
--   Answers told rows r       a call that answers r and leaves these rows does what was told: the rows told, or the fault
--                             told with no rows
use Rattle.std.specs.Prelude.{◌≡◌, ℕ, Bool, cond, ◌&&◌, List, [], map, length, Ok, Err, Result, nat_le, nat_lt}
use Rattle.course.specs.declared.course.Arrow.{Arrow}
use Rattle.course.specs.Ends.{inside}
use Rattle.course.specs.Reach.{ends}
use Rattle.rows.specs.declared.row.Row.{Row}
use Rattle.rows.specs.declared.row.RowsFault.{RowsFault}
use Rattle.rows.specs.declared.row.RowsFault.TheVariants.{Unfit, TooMany}
use Rattle.rows.specs.Rows.{rows_of}

abbrev pub fits : List Arrow → ℕ → ℕ → Bool
fits arrows n root = nat_le n 1024 && (nat_le (length arrows) 2048 && (nat_lt root n && inside n (map ends arrows)))

unfoldable pub listing : List Arrow → ℕ → ℕ → Result (List Row) RowsFault
listing arrows n root =
    let rows = rows_of arrows n root in
    cond (fits arrows n root) (cond (nat_le (length rows) 1024) (Ok rows) (Err TooMany)) (Err Unfit)

abbrev pub Answers : Result (List Row) RowsFault → List Row → Result (Unit {0}) RowsFault → Type 0
Answers (Ok listed) rows r = (r ≡ Ok tt) × (rows ≡ listed)
Answers (Err e) rows r = (r ≡ Err e) × (rows ≡ [])
