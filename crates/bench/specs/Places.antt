-- Where a number stands in a list, or belongs, after lower ones. Assumes nothing.
--
--   Stands rs r at      the number r stands at the place `at` in rs, and lower ones before it
--   Missing rs r at     it does not: lower ones stand before the place, and a higher one at it, if any
use Rattle.std.specs.Prelude.{◌≡◌, ℕ, ◌<◌, ◌≤◌, List, length, slice_index}

pub record Stands (rs : List ℕ) (r at : ℕ) : Type 0 where
  pub within : at < length rs
  pub below : (k : ℕ) → k < at → slice_index rs k < r
  pub here : slice_index rs at ≡ r

pub record Missing (rs : List ℕ) (r at : ℕ) : Type 0 where
  pub within : at ≤ length rs
  pub below : (k : ℕ) → k < at → slice_index rs k < r
  pub above : at < length rs → r < slice_index rs at
