-- The refusals of a view. Assumes nothing.
--
--   told fault    the number under which a refusal is reported, and the entry of the course that it names, if any
--   with_entry    a text, and behind it an entry, if there is one
--   printed fault the number, and behind it the entry, if there is one, as bytes
use Rattle.std.specs.Prelude.{ℕ, List, ◌++◌, Some, None, Option, codes}
use Rattle.std.specs.Fmt.{decimal}
use Rattle.course.specs.declared.course.Full.{Full as Entry}
use Rattle.course.specs.Printed.{full_text}
use Rattle.view.specs.declared.fault.ViewFault.{ViewFault}
use Rattle.view.specs.declared.fault.ViewFault.TheVariants.{ShortTable, Full, TooManyRows}

abbrev pub told : ViewFault → ℕ × Option Entry
told ShortTable = (10, None)
told (Full e) = (18, Some e)
told TooManyRows = (19, None)

abbrev pub with_entry : List ℕ → Option Entry → List ℕ
with_entry text None = text
with_entry text (Some e) = text ++ codes " " ++ full_text e

abbrev pub printed : ViewFault → List ℕ
printed fault = with_entry (decimal (told fault).0) (told fault).1
