-- What an in-map made marker by marker has at each marker. Assumes nothing.
use Rattle.std.proofs.Common.{◌≡◌, ℕ, zero, suc, ◌+◌, ◌<◌, Bool, true, false, cond, List, [], ◌∷◌, length, get_or, refl, ap, ◌∙◌, arith}
use Rattle.course.specs.Hubs.{slots}

pub slots_at : (g : ℕ → ℕ) (i : ℕ) (ms : List Bool) (k : ℕ) → k < length ms → get_or (slots g i ms) k 0 ≡ cond (get_or ms k false) (g (i + k)) 0
unfolding slots
slots_at g i [] k h = absurd (omega arith)
slots_at g i (b ∷ ms) zero h = ap (λ n. cond b (g n) 0) (let e : i ≡ i + 0 = omega arith in e)
slots_at g i (b ∷ ms) (suc k) h = slots_at g (suc i) ms k (omega arith) ∙ ap (λ n. cond (get_or ms k false) (g n) 0) (let e : suc i + k ≡ i + suc k = omega arith in e)

pub slots_long : (g : ℕ → ℕ) (i : ℕ) (ms : List Bool) → length (slots g i ms) ≡ length ms
unfolding slots
slots_long g i [] = refl
slots_long g i (b ∷ ms) = ap suc (slots_long g (suc i) ms)

-- at a marker of the set
pub slot_set : (g : ℕ → ℕ) (ms : List Bool) (k : ℕ) → k < length ms → get_or ms k false ≡ true → get_or (slots g 0 ms) k 0 ≡ g k
slot_set g ms k h e =
    slots_at g 0 ms k h ∙ ap (λ b. cond b (g (0 + k)) 0) e ∙ ap g (let z : 0 + k ≡ k = omega arith in z)
