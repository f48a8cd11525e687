-- How rows are added to rows. Assumes nothing.
--
--   Grown before more after r  the answer r to a call that adds rows: the rows after it are those before it and then
--                              these, at most 1,024 in all; or else that would be more than 1,024
use Rattle.std.specs.Prelude.{◌≡◌, ◌<◌, ◌≤◌, List, ◌++◌, length, Ok, Err, Result}
use Rattle.rows.specs.declared.row.Row.{Row}
use Rattle.rows.specs.declared.row.RowsFault.{RowsFault}
use Rattle.rows.specs.declared.row.RowsFault.TheVariants.{TooMany}

abbrev pub Grown : List Row → List Row → List Row → Result (Unit {0}) RowsFault → Type 0
Grown before more after (Ok u) = (after ≡ before ++ more) × (length after ≤ 1024)
Grown before more after (Err e) = (e ≡ TooMany) × (1024 < length (before ++ more))
