-- Where the bytes before the zeros at the end of a row end. Assumes nothing.
use Rattle.std.proofs.Common.{◌≡◌, ◌≢◌, ℕ, zero, suc, ◌+◌, ◌≤◌, List, [], ◌∷◌, length, get_or, take, refl, ap, arith}
use Rattle.kinds.specs.Texts.{trimmed_from, trimmed}

-- n bytes, of which the last is no zero, and only zeros after them
pub trimmed_at : (bs : List ℕ) (n : ℕ) → n ≤ length bs → ((k : ℕ) → k + 1 ≡ n → get_or bs k 0 ≢ 0) → ((k : ℕ) → n ≤ k → get_or bs k 0 ≡ 0) → take n bs ≡ trimmed bs
trimmed_at [] zero le last zeros = refl
trimmed_at [] (suc n) le last zeros = absurd (omega arith)
trimmed_at (zero ∷ bs) zero le last zeros =
    ap (trimmed_from 0) (trimmed_at bs zero (omega arith) (λ k e. absurd (omega arith)) (λ k h. zeros (suc k) (omega arith)))
trimmed_at (suc b ∷ bs) zero le last zeros = absurd (let z = zeros 0 (omega arith) in omega arith)
trimmed_at (zero ∷ bs) (suc zero) le last zeros = absurd (last 0 (omega arith) refl)
trimmed_at (zero ∷ []) (suc (suc n)) le last zeros = absurd (omega arith)
trimmed_at (zero ∷ c ∷ bs) (suc (suc n)) le last zeros =
    ap (trimmed_from 0) (trimmed_at (c ∷ bs) (suc n) (omega arith) (λ k e. last (suc k) (omega arith)) (λ k h. zeros (suc k) (omega arith)))
trimmed_at (suc b ∷ bs) (suc n) le last zeros =
    ap (λ (l : List ℕ). suc b ∷ l) (trimmed_at bs n (omega arith) (λ k e. last (suc k) (omega arith)) (λ k h. zeros (suc k) (omega arith)))
