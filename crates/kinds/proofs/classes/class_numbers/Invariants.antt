use Rattle.std.proofs.Common.{◌≡◌, ℕ, ◌<◌, map, length, get_or, drop}
use Rattle.kinds.specs.Classes.{Class}
use Rattle.kinds.proofs.classes.class_numbers.Given as goal

abbrev pub invariant-loop-i : goal.invariant-loop-i
invariant-loop-i g l =
    ((k : ℕ) → k < l.i → Class (map g.L.Label.meaning l.labels) k (get_or l.classes k 0))
    × (drop (length l.labels) l.classes ≡ drop (length l.labels) l.initial.classes)
