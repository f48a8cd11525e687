-- The law of rows: the rows computed are the rows, in order, each once. Assumes nothing.
--
--   Before p q            the pair p of a node and an arrow comes before q: by node, then by arrow
--   Ascending pairs       each pair comes before all that follow it
--   AreRows arrows root   these rows are the rows that the arrows show from the root: their pairs of a node and an arrow
--                         ascend, are exactly the pairs that show, and each row is that of its pair
--   RowsLaw               so it is of the rows computed, where the root and both ends of every arrow are among the nodes
use Rattle.std.specs.Prelude.{◌≡◌, ℕ, ◌<◌, true, ◌⊎◌, ◌↔◌, List, [], ◌∷◌, map, slice_index_or}
use Rattle.std.specs.List.{AllByRecursion}
use Rattle.course.specs.declared.course.Arrow.{Arrow}
use Rattle.course.specs.Ends.{inside}
use Rattle.walks.specs.Reach.{In}
use Rattle.course.specs.Reach.{ends, lost}
use Rattle.rows.specs.declared.row.Row.{Row}
use Rattle.rows.specs.Rows.{Shows, row_of, rows_of}

abbrev pub Before : ℕ × ℕ → ℕ × ℕ → Type 0
Before p q = (p.0 < q.0) ⊎ ((p.0 ≡ q.0) × (p.1 < q.1))

abbrev pub Ascending : List (ℕ × ℕ) → Type 0
Ascending [] = Unit {0}
Ascending (p ∷ pairs) = AllByRecursion (Before p) pairs × Ascending pairs

pub record AreRows (arrows : List Arrow) (root : ℕ) (rows : List Row) : Type 0 where
  pub pairs : List (ℕ × ℕ)
  pub ascending : Ascending pairs
  pub exact : (u k : ℕ) → In (u, k) pairs ↔ Shows arrows root u k
  pub told : rows ≡ map (λ p. row_of p.0 (slice_index_or arrows p.1 lost)) pairs

abbrev pub RowsLaw : Type 0
RowsLaw =
    (arrows : List Arrow) (n root : ℕ) → inside n (map ends arrows) ≡ true → root < n →
    AreRows arrows root (rows_of arrows n root)
