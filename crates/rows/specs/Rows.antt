-- The rows that arrows show from a root. Assumes nothing.
--
-- In words: the root is shown. A row is a shown node with an arrow that is not blank and whose tail is the node, or is
-- reached from it by blank arrows; the arrow's head is shown too.
--   blanks arrows          the blank ones of the arrows
--   Leaves arrows u k      the arrow with the number k is not blank, and its tail is u or is reached from u by blank arrows
--   Shown arrows root u    the node u is shown
--   Shows arrows root u k  u is shown, and k is the arrow of a row of it
--
-- Computed, for n nodes:
--   near arrows u          u and all that blank arrows reach from it
--   leads s a              whether the arrow a is not blank and has its tail in s
--   row_of u a             the row of the node u with the arrow a
--   rows_at arrows u       the rows that u has if it is shown, by arrow
--   step r                 a row as a step from its node to its head
--   steps arrows n         the steps that the rows of n nodes make, of shown nodes and of others
--   shown arrows n root    the shown ones of n nodes, upwards: those that the steps lead to from the root
--   rows_of arrows n root  the rows, by node and then by arrow
use Rattle.std.specs.Prelude.{◌≡◌, ℕ, ◌<◌, Bool, false, not, ◌&&◌, List, [], ◌∷◌, map, length, filter, slice_index_or}
use Rattle.std.specs.List.{flat_map}
use Rattle.course.specs.declared.course.Arrow.{Arrow}
use Rattle.course.specs.Course.{is_blank_origin}
use Rattle.walks.specs.Reach.{Reaches, among, closure, from}
use Rattle.course.specs.Reach.{ends, lost}
use Rattle.rows.specs.declared.row.Row.{Row}

abbrev pub blanks : List Arrow → List Arrow
blanks arrows = filter (λ a. is_blank_origin a.origin) arrows

pub record Leaves (arrows : List Arrow) (u k : ℕ) : Type 0 where
  pub within : k < length arrows
  pub labelled : is_blank_origin (slice_index_or arrows k lost).origin ≡ false
  pub reached : Reaches (map ends (blanks arrows)) u (slice_index_or arrows k lost).tail

pub data Shown (arrows : List Arrow) (root : ℕ) : ℕ → Type 0 where
  first : Shown arrows root root
  next : {u k : ℕ} → Shown arrows root u → Leaves arrows u k → Shown arrows root (slice_index_or arrows k lost).head

pub record Shows (arrows : List Arrow) (root u k : ℕ) : Type 0 where
  pub shown : Shown arrows root u
  pub leaves : Leaves arrows u k

abbrev pub near : List Arrow → ℕ → List ℕ
near arrows u = closure (map ends (blanks arrows)) (u ∷ [])

abbrev pub leads : List ℕ → Arrow → Bool
leads s a = not (is_blank_origin a.origin) && among a.tail s

abbrev pub row_of : ℕ → Arrow → Row
row_of u a = record { node = u; head = a.head; origin = a.origin; place = a.place; frame = a.frame }

unfoldable pub rows_at : List Arrow → ℕ → List Row
rows_at arrows u = let s = near arrows u in map (row_of u) (filter (leads s) arrows)

abbrev pub step : Row → ℕ × ℕ
step r = (r.node, r.head)

abbrev pub steps : List Arrow → ℕ → List (ℕ × ℕ)
steps arrows n = map step (flat_map (rows_at arrows) (from 0 n))

unfoldable pub shown : List Arrow → ℕ → ℕ → List ℕ
shown arrows n root = let s = closure (steps arrows n) (root ∷ []) in filter (λ v. among v s) (from 0 n)

abbrev pub rows_of : List Arrow → ℕ → ℕ → List Row
rows_of arrows n root = flat_map (rows_at arrows) (shown arrows n root)
