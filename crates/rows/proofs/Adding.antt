-- Rows that are added one by one, arrow by arrow and node by node, are all the rows. Assumes nothing.
use Rattle.std.proofs.Common.{◌≡◌, ℕ, suc, ◌+◌, ◌-◌, ◌<◌, ◌≤◌, Bool, true, false, List, ◌∷◌, ◌++◌, length, get_or, filter, sym, ap, ◌∙◌, arith}
use Rattle.std.specs.List.{flat_map}
use Rattle.std.proofs.lemmas.List.{append_assoc, append-nil, length-append}
use Rattle.std.proofs.lemmas.Bool.{cond-true, cond-false}
use Rattle.course.specs.declared.course.Arrow.{Arrow}
use Rattle.walks.specs.Reach.{from}
use Rattle.rows.specs.declared.row.Row.{Row}
use Rattle.rows.specs.Rows.{rows_at}

-- the rows of the marked ones of n nodes, from the node i on
abbrev pub rows_from : List Arrow → List Bool → ℕ → ℕ → List Row
rows_from arrows m i n = flat_map (rows_at arrows) (filter (λ v. get_or m v false) (from i n))

nodes_left : (i n : ℕ) → i < n → from i (n - i) ≡ i ∷ from (i + 1) (n - (i + 1))
nodes_left i n l =
    let q : n - i ≡ suc (n - (i + 1)) = omega arith in
    let z : suc i ≡ i + 1 = omega arith in
    ap (from i) q ∙ ap (λ j. i ∷ from j (n - (i + 1))) z

module _ (arrows : List Arrow) (m : List Bool) (n i : ℕ) (l : i < n) where
  pub node_left : get_or m i false ≡ true → rows_from arrows m i (n - i) ≡ rows_at arrows i ++ rows_from arrows m (i + 1) (n - (i + 1))
  node_left y =
      ap (λ (us : List ℕ). flat_map (rows_at arrows) (filter (λ v. get_or m v false) us)) (nodes_left i n l)
      ∙ ap (flat_map (rows_at arrows)) (cond-true (get_or m i false) (i ∷ filter (λ v. get_or m v false) (from (i + 1) (n - (i + 1)))) (filter (λ v. get_or m v false) (from (i + 1) (n - (i + 1)))) y)

  pub node_passed : get_or m i false ≡ false → rows_from arrows m i (n - i) ≡ rows_from arrows m (i + 1) (n - (i + 1))
  node_passed y =
      ap (λ (us : List ℕ). flat_map (rows_at arrows) (filter (λ v. get_or m v false) us)) (nodes_left i n l)
      ∙ ap (flat_map (rows_at arrows)) (cond-false (get_or m i false) (i ∷ filter (λ v. get_or m v false) (from (i + 1) (n - (i + 1)))) (filter (λ v. get_or m v false) (from (i + 1) (n - (i + 1)))) y)

-- the rows got are more of the rows, with which what is left begins
module _ (xs got more rest all left : List Row) (e : left ≡ more ++ rest) (g : got ≡ more) (h : xs ++ left ≡ all) where
  pub some_more : (ys : List Row) → ys ≡ xs ++ got → ys ++ rest ≡ all
  some_more ys q =
      ap (λ (l : List Row). l ++ rest) (q ∙ ap (λ (l : List Row). xs ++ l) g) ∙ append_assoc xs more rest ∙ sym (ap (λ (l : List Row). xs ++ l) e) ∙ h

  -- where these are more than 1,024, there are more than 1,024 in all
  pub over_some : 1024 < length (xs ++ got) → 1024 < length all
  over_some l =
      omega (arith, ap length (sym h) ∙ length-append xs left, ap length e ∙ length-append more rest, length-append xs got, ap length g)

pub nodes_all : (arrows : List Arrow) (m : List Bool) (n i : ℕ) (xs all : List Row) → n ≤ i → xs ++ rows_from arrows m i (n - i) ≡ all → xs ≡ all
nodes_all arrows m n i xs all l h =
    let q : n - i ≡ 0 = omega arith in
    sym (append-nil xs) ∙ sym (ap (λ j. xs ++ rows_from arrows m i j) q) ∙ h
