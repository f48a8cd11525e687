-- What steps between numbered nodes reach: the relation, and a closure that computes it. Assumes nothing.
--
--   In x xs          x is an element of xs
--   Reaches steps u v    v is u, or steps of the list lead from u to v
--   among x xs       whether the number x is an element of xs
--   closure steps s  the numbers of s and all that steps lead to from them. Under the later steps first; if then the
--                    first step leads out of it, its head is added and it is closed under the later steps again
--   from i n         n numbers from i on
--   lead n steps r   for each of the first n nodes, whether it is r or steps lead to it from r
--   trues            how many flags of a list are set
--   Inside n steps   both ends of every step are among the first n nodes
use Rattle.std.specs.Prelude.{◌≡◌, ℕ, zero, suc, ◌+◌, ◌<◌, Bool, true, false, cond, not, ◌&&◌, ◌||◌, ◌⊎◌, List, [], ◌∷◌, map, ◌==◌}

abbrev pub In : {X : Type 0} → X → List X → Type 0
In x [] = ⊥
In x (y ∷ ys) = (x ≡ y) ⊎ In x ys

pub data Reaches (steps : List (ℕ × ℕ)) (u : ℕ) : ℕ → Type 0 where
  stay : Reaches steps u u
  go : {v w : ℕ} → Reaches steps u v → In (v, w) steps → Reaches steps u w

abbrev pub among : ℕ → List ℕ → Bool
among x [] = false
among x (y ∷ ys) = x == y || among x ys

abbrev pub closure : List (ℕ × ℕ) → List ℕ → List ℕ
closure [] s = s
closure (a ∷ rest) s =
    let once = closure rest s in
    elim (among a.0 once && not (among a.1 once)) [ true ↦ closure rest (a.1 ∷ once) | false ↦ once ]

abbrev pub from : ℕ → ℕ → List ℕ
from i zero = []
from i (suc n) = i ∷ from (suc i) n

unfoldable pub lead : ℕ → List (ℕ × ℕ) → ℕ → List Bool
lead n steps r = let s = closure steps (r ∷ []) in map (λ v. among v s) (from 0 n)

unfoldable pub trues : List Bool → ℕ
trues [] = 0
trues (b ∷ bs) = cond b 1 0 + trues bs

pub record Inside (n : ℕ) (steps : List (ℕ × ℕ)) : Type 0 where
  pub ends : (v w : ℕ) → In (v, w) steps → (v < n) × (w < n)
