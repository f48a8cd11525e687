-- The first line of a text, cut off. Assumes nothing.
use Rattle.std.proofs.Common.{◌≡◌, ◌≢◌, ℕ, zero, suc, ◌+◌, ◌<◌, ◌≤◌, eqb, List, [], ◌∷◌, length, get_or, take, drop, sym, ap, ◌∙◌, arith}
use Rattle.std.proofs.lemmas.Bool.{eq-eqb, ne_eqb, cond-true, cond-false}
use Rattle.listing.specs.Lines.{before, lines_of}

line_at_end : (b : ℕ) (bs : List ℕ) → b ≡ 10 → lines_of (b ∷ bs) ≡ [] ∷ lines_of bs
line_at_end b bs e = cond-true (eqb b 10) _ _ (eq-eqb b 10 e)

line_goes_on : (b : ℕ) (bs : List ℕ) → b ≢ 10 → lines_of (b ∷ bs) ≡ before b (lines_of bs)
line_goes_on b bs n = cond-false (eqb b 10) _ _ (ne_eqb b 10 n)

-- n bytes stand before the first line end, or all where there is none
pub first_cut : (bs : List ℕ) (n : ℕ) → 0 < length bs → n ≤ length bs → ((k : ℕ) → k < n → get_or bs k 0 ≢ 10) → (n < length bs → get_or bs n 0 ≡ 10) → lines_of bs ≡ take n bs ∷ lines_of (drop (n + 1) bs)
first_cut [] n some le early found = absurd (omega arith)
first_cut (b ∷ bs) zero some le early found = line_at_end b bs (found (omega arith))
first_cut (b ∷ []) (suc zero) some le early found = line_goes_on b [] (early 0 (omega arith))
first_cut (b ∷ []) (suc (suc n)) some le early found = absurd (omega arith)
first_cut (b ∷ c ∷ bs) (suc n) some le early found =
    let next : suc n + 1 ≡ suc (n + 1) = omega arith in
    line_goes_on b (c ∷ bs) (early 0 (omega arith))
    ∙ ap (before b) (first_cut (c ∷ bs) n (omega arith) (omega arith) (λ k h. early (suc k) (omega arith)) (λ h. found (omega arith)))
    ∙ sym (ap (λ (k : ℕ). take (suc n) (b ∷ c ∷ bs) ∷ lines_of (drop k (b ∷ c ∷ bs))) next)
