-- What holds of all elements of a list. Assumes nothing.
--
--   Every P xs        P holds of every element of xs
--   EveryFrom P i xs  P holds of every element of xs with its number, counted from i on
--   Ascending xs      each number of xs is below all that follow it
use Rattle.std.specs.Prelude.{ℕ, suc, ◌<◌, List, [], ◌∷◌}

abbrev pub Every : {X : Type 0} → (X → Type 0) → List X → Type 0
Every P [] = Unit {0}
Every P (x ∷ xs) = P x × Every P xs

abbrev pub EveryFrom : {X : Type 0} → (ℕ → X → Type 0) → ℕ → List X → Type 0
EveryFrom P i [] = Unit {0}
EveryFrom P i (x ∷ xs) = P i x × EveryFrom P (suc i) xs

abbrev pub Ascending : List ℕ → Type 0
Ascending [] = Unit {0}
Ascending (x ∷ xs) = Every (λ y. x < y) xs × Ascending xs
