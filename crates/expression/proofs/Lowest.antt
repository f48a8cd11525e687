-- The lowest place at which a test fails. Assumes nothing.
use Rattle.std.proofs.Common.{◌≡◌, ℕ, zero, suc, ◌+◌, ◌<◌, Bool, true, false, Some, None, Option, Ok, sym, refl, ap, ◌∙◌, ap₂, ⊎_elim, not-suc-le-zero, ◌≤◌, add-one, arith}
use Rattle.std.specs.Option.{MatchOption}
use Rattle.std.proofs.lemmas.Bool.{cases_eq}
use Rattle.expression.specs.declared.refusal.Refusal.{Refusal}
use Rattle.expression.specs.Admission.{lowest, or_here, told}

module _ (test : ℕ → Bool) where
  pub lowest_none : lowest 0 test ≡ None
  unfolding lowest
  lowest_none = refl

  -- one more place that passes
  pub lowest_more : (n : ℕ) → lowest n test ≡ None → test n ≡ true → lowest (n + 1) test ≡ None
  unfolding lowest
  lowest_more n h e = ap (λ (k : ℕ). lowest k test) (add-one n) ∙ ap₂ (λ (o : Option ℕ) (b : Bool). or_here o b n) h e

  pub lowest_found : (p n : ℕ) → lowest p test ≡ None → test p ≡ false → p < n → lowest n test ≡ Some p
  unfolding lowest
  lowest_found p zero h e l = absurd (not-suc-le-zero l)
  lowest_found p (suc n) h e l =
      ⊎_elim
      (λ (i : p ≡ n). ap (λ (k : ℕ). lowest (suc k) test) (sym i) ∙ ap₂ (λ (o : Option ℕ) (b : Bool). or_here o b p) h e)
      (λ (i : p ≡ n → ⊥). ap (λ (o : Option ℕ). or_here o (test n) n) (lowest_found p n h e (omega arith)))
      (cases_eq p n)

  all_pass : (n : ℕ) → ((k : ℕ) → 0 ≤ k → k < n → test k ≡ true) → lowest n test ≡ None
  unfolding lowest
  all_pass zero h = refl
  all_pass (suc n) h = ap₂ (λ (o : Option ℕ) (b : Bool). or_here o b n) (all_pass n (λ k z l. h k z (omega arith))) (h n (omega arith) (omega arith))

  -- what a search of the places in order tells, by a test that agrees on the places
  pub lowest_by : (m n : ℕ) → m ≡ n → (r : Option ℕ) (code : ℕ → Bool) → ((k : ℕ) → k < n → code k ≡ test k)
      → MatchOption r ((k : ℕ) → 0 ≤ k → k < m → code k ≡ true) (λ p. (0 ≤ p) × (p < m) × (code p ≡ false) × ((k : ℕ) → 0 ≤ k → k < p → code k ≡ true))
      → r ≡ lowest n test
  lowest_by m n is None code same h = sym (all_pass n (λ k z l. sym (same k l) ∙ h k z (omega arith)))
  lowest_by m n is (Some p) code same h =
      let l : p < n = omega (arith, h.1) in
      sym (lowest_found p n (all_pass p (λ k z i. sym (same k (omega arith)) ∙ h.3 k z i)) (sym (same p l) ∙ h.2) l)

  passed : (o : Option ℕ) (b : Bool) (n : ℕ) → or_here o b n ≡ None → (o ≡ None) × (b ≡ true)
  passed (Some p) b n h = absurd (cc)
  passed None true n h = (refl, refl)
  passed None false n h = absurd (cc)

  -- where no place fails, each passes
  pub each_passes : (n : ℕ) → lowest n test ≡ None → (p : ℕ) → p < n → test p ≡ true
  unfolding lowest
  each_passes zero h p l = absurd (not-suc-le-zero l)
  each_passes (suc n) h p l =
      let t = passed (lowest n test) (test n) n h in
      ⊎_elim
      (λ (i : p ≡ n). ap test i ∙ t.1)
      (λ (i : p ≡ n → ⊥). each_passes n t.0 p (omega arith))
      (cases_eq p n)

-- a check that goes over the places answers that none fails
told_none : (refusal : ℕ → Refusal) (o : Option ℕ) → told refusal o ≡ Ok tt → o ≡ None
told_none refusal None h = refl
told_none refusal (Some p) h = cc

-- and then each passes
pub each_told : (refusal : ℕ → Refusal) (test : ℕ → Bool) (n : ℕ) → told refusal (lowest n test) ≡ Ok tt → (p : ℕ) → p < n → test p ≡ true
each_told refusal test n h = each_passes test n (told_none refusal _ h)
