-- The entries of a source, one more at a time. Assumes nothing.
use Rattle.std.proofs.Common.{◌≡◌, ℕ, zero, suc, ◌+◌, ◌<◌, List, [], ◌∷◌, ◌++◌, length, get_or, take, sym, refl, ap, ◌∙◌, add-one, arith}
use Rattle.std.proofs.lemmas.List.{take_more}
use Rattle.course.specs.declared.course.Node.{Node}
use Rattle.course.specs.declared.course.Origin.TheVariants.{Source}
use Rattle.course.specs.Course.{link}
use Rattle.course.specs.Opening.{source_nodes, source_arrows}

abbrev pub source_node : ℕ → Node
source_node i = record { place = 64; frame = 0; marker = 0; stands = i }

nodes_push : (i n : ℕ) → source_nodes i (suc n) ≡ source_nodes i n ++ source_node (i + n) ∷ []
nodes_push i zero = ap (λ k. source_node k ∷ []) (let e : i ≡ i + 0 = omega arith in e)
nodes_push i (suc n) =
    ap (λ l. source_node i ∷ l) (nodes_push (suc i) n ∙ ap (λ k. source_nodes (suc i) n ++ source_node k ∷ []) (let e : suc i + n ≡ i + suc n = omega arith in e))

pub nodes_more : (n : ℕ) → source_nodes 0 n ++ source_node n ∷ [] ≡ source_nodes 0 (n + 1)
nodes_more n =
    sym (ap (source_nodes 0) (add-one n) ∙ nodes_push 0 n ∙ ap (λ k. source_nodes 0 n ++ source_node k ∷ []) (let e : 0 + n ≡ n = omega arith in e))

pub nodes_long : (i n : ℕ) → length (source_nodes i n) ≡ n
nodes_long i zero = refl
nodes_long i (suc n) = ap suc (nodes_long (suc i) n)

arrows_push : (k : ℕ) (xs : List (ℕ × ℕ)) (a : ℕ × ℕ) → source_arrows k (xs ++ a ∷ []) ≡ source_arrows k xs ++ link a.0 a.1 (Source (k + length xs)) 64 0 ∷ []
arrows_push k [] a = ap (λ i. link a.0 a.1 (Source i) 64 0 ∷ []) (let e : k ≡ k + 0 = omega arith in e)
arrows_push k (x ∷ xs) a =
    ap (λ l. link x.0 x.1 (Source k) 64 0 ∷ l)
    (arrows_push (suc k) xs a ∙ ap (λ i. source_arrows (suc k) xs ++ link a.0 a.1 (Source i) 64 0 ∷ []) (let e : suc k + length xs ≡ k + suc (length xs) = omega arith in e))

pub arrows_more : (xs : List (ℕ × ℕ)) (k : ℕ) → k < length xs → length (take k xs) ≡ k
    → source_arrows 0 (take k xs) ++ link (get_or xs k (0, 0)).0 (get_or xs k (0, 0)).1 (Source k) 64 0 ∷ [] ≡ source_arrows 0 (take (k + 1) xs)
arrows_more xs k l e =
    sym (ap (source_arrows 0) (take_more xs k (0, 0) l) ∙ arrows_push 0 (take k xs) (get_or xs k (0, 0))
    ∙ ap (λ i. source_arrows 0 (take k xs) ++ link (get_or xs k (0, 0)).0 (get_or xs k (0, 0)).1 (Source i) 64 0 ∷ []) (let z : 0 + length (take k xs) ≡ k = omega arith in z))
