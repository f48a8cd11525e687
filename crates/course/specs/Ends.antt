-- The ends of arrows told as pairs. Assumes nothing.
--
--   joins n a        whether both ends of the arrow a, its tail and its head, are among n nodes
--   inside n arrows  whether this holds of every arrow
use Rattle.std.specs.Prelude.{ℕ, Bool, true, ◌&&◌, List, [], ◌∷◌, nat_lt}

abbrev pub joins : ℕ → ℕ × ℕ → Bool
joins n a = nat_lt a.0 n && nat_lt a.1 n

abbrev pub inside : ℕ → List (ℕ × ℕ) → Bool
inside n [] = true
inside n (a ∷ rest) = joins n a && inside n rest
