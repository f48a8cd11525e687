use Rattle.std.proofs.Common.{◌≡◌, ℕ, ◌<◌, ◌≤◌, length, get_or}
use Rattle.expression.specs.Listed.{listed}
use Rattle.expression.specs.Parts.{times, Below}
use Rattle.expression.proofs.levels.give_levels.Given as goal

-- the parts so far have the level, and every other place is as it was
abbrev pub invariant-loop-part : goal.invariant-loop-part
invariant-loop-part l =
    Below (length l.levels) (listed l.part-iterator)
    × ((p : ℕ) → times p (listed l.part-iterator) ≤ times p (listed l.initial.part-iterator))
    × ((p : ℕ) → times p (listed l.part-iterator) < times p (listed l.initial.part-iterator) → get_or l.levels p 0 ≡ l.level)
    × ((p : ℕ) → times p (listed l.part-iterator) ≡ times p (listed l.initial.part-iterator) → get_or l.levels p 0 ≡ get_or l.initial.levels p 0)
