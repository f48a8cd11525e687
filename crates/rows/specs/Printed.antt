-- What is printed of a row, as bytes. Assumes nothing.
--
--   row_text r   each field of the row r after its name, with blanks between them
use Rattle.std.specs.Prelude.{ℕ, List, ◌++◌, codes}
use Rattle.std.specs.Fmt.{decimal}
use Rattle.course.specs.Printed.{origin_text}
use Rattle.rows.specs.declared.row.Row.{Row}

abbrev pub row_text : Row → List ℕ
row_text r =
    codes "node=" ++ decimal r.node ++ codes " head=" ++ decimal r.head ++ codes " origin=" ++ origin_text r.origin ++ codes " place=" ++ decimal r.place
    ++ codes " frame=" ++ decimal r.frame
