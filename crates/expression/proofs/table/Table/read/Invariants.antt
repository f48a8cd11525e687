use Rattle.std.proofs.Common.{◌≡◌, take, None}
use Rattle.expression.specs.Admission.{table_read, well_formed, lowest}
use Rattle.expression.proofs.table.Table.read.Given as goal

-- the places so far are well formed and read
abbrev pub invariant-loop-place : goal.invariant-loop-place
invariant-loop-place l = (l.forms.items ≡ table_read (take l.place l.raw)) × (lowest l.place (well_formed l.raw) ≡ None)
