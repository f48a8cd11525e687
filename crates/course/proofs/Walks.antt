-- What a walk along arrows marks: the nodes that are reached, flag by flag. Assumes nothing.
use Rattle.std.proofs.Common.{◌≡◌, ℕ, zero, suc, ◌<◌, ◌≤◌, true, false, List, [], ◌∷◌, map, length, get_or, take, sym, refl, ap, ◌∙◌, arith}
use Rattle.std.proofs.lemmas.List.{take-map}
use Rattle.course.specs.declared.course.Arrow.{Arrow}
use Rattle.walks.specs.Reach.{In, stay, closure, among, from, lead}
use Rattle.course.specs.Reach.{lost, ends, reached}
use Rattle.walks.proofs.Members.{in_map, in_at}
use Rattle.walks.proofs.Reaching.{closed, exact}
use Rattle.walks.proofs.Walking.{lead_at}

abbrev pub tail_at : List Arrow → ℕ → ℕ
tail_at xs k = (get_or xs k lost).tail

-- an arrow is a step
pub arrow_in : (xs : List Arrow) (k : ℕ) → k < length xs → In ((get_or xs k lost).tail, (get_or xs k lost).head) (map ends xs)
arrow_in xs k h = in_map ends (get_or xs k lost) xs (in_at xs k lost h)

-- the flags of fewer nodes
take_from : (i m n : ℕ) → m ≤ n → take m (from i n) ≡ from i m
take_from i zero n h = refl
take_from i (suc m) zero h = absurd (omega arith)
take_from i (suc m) (suc n) h = ap (λ l. i ∷ l) (take_from (suc i) m n (omega arith))

pub reached_front : (xs : List Arrow) (r m n : ℕ) → m ≤ n → take m (reached n xs r) ≡ reached m xs r
unfolding reached lead
reached_front xs r m n h =
    take-map (λ v. among v (closure (map ends xs) (r ∷ []))) m (from 0 n) ∙ ap (map (λ v. among v (closure (map ends xs) (r ∷ [])))) (take_from 0 m n h)

-- the flag of a node
reached_at : (xs : List Arrow) (n r v : ℕ) → v < n → get_or (reached n xs r) v false ≡ among v (closure (map ends xs) (r ∷ []))
unfolding reached
reached_at xs n r v h = lead_at n (map ends xs) r v h

-- the root is reached, and so is what an arrow leads to from a reached node
pub reached_root : (xs : List Arrow) (n r : ℕ) → r < n → get_or (reached n xs r) r false ≡ true
reached_root xs n r h = reached_at xs n r r h ∙ (exact (map ends xs) r r).1 stay

pub reached_closed : (xs : List Arrow) (n r k : ℕ) → k < length xs → tail_at xs k < n → (get_or xs k lost).head < n
    → get_or (reached n xs r) (tail_at xs k) false ≡ true → get_or (reached n xs r) (get_or xs k lost).head false ≡ true
reached_closed xs n r k lk lt lh h =
    reached_at xs n r (get_or xs k lost).head lh
    ∙ closed (tail_at xs k) (get_or xs k lost).head (map ends xs) (r ∷ []) (arrow_in xs k lk) (sym (reached_at xs n r (tail_at xs k) lt) ∙ h)
