use Rattle.std.proofs.Common.{◌≡◌, ◌≢◌, ℕ, ◌+◌, ◌<◌, List, get_or, take, length, Some, None, Option, MatchOption, arith, ⊎_elim, length-take}
use Rattle.std.proofs.lemmas.List.{get_or_past}
use Rattle.std.proofs.lemmas.Bool.{cases_lt}
use Rattle.std.proofs.lemmas.Grind.{common_steps}
use Rattle.kinds.specs.Texts.{trimmed}
use Rattle.kinds.proofs.Ends.{trimmed_at}
use Rattle.kinds.proofs.text.TextLabel.text.Goals as goal

-- the bytes up to the last that is no zero
up_to_last : (bs : List ℕ) (r : Option ℕ) (n : ℕ) → length bs ≡ 16 → MatchOption r ((k : ℕ) → k < 16 → get_or bs k 0 ≡ 0) (λ i. (i < 16) × (get_or bs i 0 ≢ 0) × ((k : ℕ) → i < k → k < 16 → get_or bs k 0 ≡ 0)) → MatchOption r (n ≡ 0) (λ i. n ≡ i + 1) → take n bs ≡ trimmed bs
up_to_last bs None n long found is =
    trimmed_at bs n (omega arith) (λ k e. absurd (omega arith)) (λ k h. ⊎_elim (λ lt. found k lt) (λ past. get_or_past bs k 0 (omega arith)) (cases_lt k 16))
up_to_last bs (Some i) n long found is =
    trimmed_at bs n (omega arith) (λ k e. let here : k ≡ i = omega arith in rw here found.1) (λ k h. ⊎_elim (λ lt. found.2 k (omega arith) lt) (λ past. get_or_past bs k 0 (omega arith)) (cases_lt k 16))

pub returns : goal.returns
returns c =
    let bs = c.args.self.now.bytes in
    let found : MatchOption c.rposition.result ((k : ℕ) → k < 16 → get_or bs k 0 ≡ 0) (λ i. (i < 16) × (get_or bs i 0 ≢ 0) × ((k : ℕ) → i < k → k < 16 → get_or bs k 0 ≡ 0)) = grind (arith, common_steps) in
    let len : MatchOption c.rposition.result (c.map_or-len.result ≡ 0) (λ i. c.map_or-len.result ≡ i + 1) = grind (arith, common_steps) in
    record { value = up_to_last bs c.rposition.result c.map_or-len.result (omega arith) found len; bound = simp length-take (omega arith) }
