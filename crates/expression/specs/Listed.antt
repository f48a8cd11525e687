-- The answer that tells a form's parts, as a list. Assumes nothing.
--
--   listed parts    the places that it tells, in their order
use Rattle.std.specs.Prelude.{ℕ, List, [], ◌∷◌}
use Rattle.expression.specs.declared.parts.Parts.{Parts}
use Rattle.expression.specs.declared.parts.Parts.TheVariants.{Nothing, One, Two}

abbrev pub listed : Parts → List ℕ
listed Nothing = []
listed (One part) = part ∷ []
listed (Two left right) = left ∷ right ∷ []
