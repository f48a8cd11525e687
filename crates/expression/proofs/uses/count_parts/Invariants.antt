use Rattle.std.proofs.Common.{◌≡◌, ℕ, ◌+◌, ◌<◌, length, get_or}
use Rattle.expression.specs.Listed.{listed}
use Rattle.expression.specs.Parts.{times, Below}
use Rattle.expression.proofs.uses.count_parts.Given as goal

-- what is counted and what is still to be counted
abbrev pub invariant-loop-part : goal.invariant-loop-part
invariant-loop-part l =
    Below (length l.counts) (listed l.part-iterator)
    × ((p : ℕ) → p < length l.counts → get_or l.counts p 0 + times p (listed l.part-iterator) ≡ get_or l.initial.counts p 0 + times p (listed l.initial.part-iterator))
