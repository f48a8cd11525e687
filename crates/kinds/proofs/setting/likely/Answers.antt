use Rattle.std.proofs.Common.{◌≡◌, ℕ, ◌<◌, Some, Ok, Err, Result, slice_index, refl, ap, arith}
use Rattle.std.specs.Result.{OkIff, result_ok}
use Rattle.std.proofs.lemmas.Grind.{common_steps}
use Rattle.kinds.proofs.Likely.{at_seconds, at_metres, at_count}
use Rattle.kinds.proofs.setting.likely.Goals as goal

pub returns-in_err-read-in-83-clause-finds : goal.returns-in_err-read-in-83-clause-finds
returns-in_err-read-in-83-clause-finds c =
    let bs = c.args.bytes.now in
    let is : slice_index bs 0 ≡ 83 = grind (arith, common_steps) in
    λ v h e. let s = at_seconds _ (λ n. refl) bs c.read.result c.read.ensures is v h e in cc (c.in_err-read-in-83.was, s.1)

pub returns-in_ok-read-in-83-clause-finds : goal.returns-in_ok-read-in-83-clause-finds
returns-in_ok-read-in-83-clause-finds c =
    let bs = c.args.bytes.now in
    let is : slice_index bs 0 ≡ 83 = grind (arith, common_steps) in
    λ v h e. let s = at_seconds _ (λ n. refl) bs c.read.result c.read.ensures is v h e in cc (c.in_ok-read-in-83.was, s.1, s.2)

pub returns-in_err-read-in-76-clause-finds : goal.returns-in_err-read-in-76-clause-finds
returns-in_err-read-in-76-clause-finds c =
    let bs = c.args.bytes.now in
    let is : slice_index bs 0 ≡ 76 = grind (arith, common_steps) in
    λ v h e. let s = at_metres _ (λ n. refl) bs c.read-in-76.result c.read-in-76.ensures is v h e in cc (c.in_err-read-in-76.was, s.1)

pub returns-in_ok-read-in-76-clause-finds : goal.returns-in_ok-read-in-76-clause-finds
returns-in_ok-read-in-76-clause-finds c =
    let bs = c.args.bytes.now in
    let is : slice_index bs 0 ≡ 76 = grind (arith, common_steps) in
    λ v h e. let s = at_metres _ (λ n. refl) bs c.read-in-76.result c.read-in-76.ensures is v h e in cc (c.in_ok-read-in-76.was, s.1, s.2)

pub returns-in_err-read-in-67-clause-finds : goal.returns-in_err-read-in-67-clause-finds
returns-in_err-read-in-67-clause-finds c =
    let bs = c.args.bytes.now in
    let is : slice_index bs 0 ≡ 67 = grind (arith, common_steps) in
    λ v h e. let s = at_count _ (λ n. refl) bs c.read-in-67.result c.read-in-67.ensures is v h e in cc (c.in_err-read-in-67.was, s.2)

-- a number that fits a count is converted to it
converted : {E : Type 0} (r : Result ℕ E) (n : ℕ) → OkIff r (n < 65536) n → n < 65536 → result_ok r ≡ Some n
converted (Ok m) n said fits = ap (λ (k : ℕ). Some k) said.1
converted (Err e) n said fits = absurd (said fits)

pub returns-in_err-ok-in-67-clause-finds : goal.returns-in_err-ok-in-67-clause-finds
returns-in_err-ok-in-67-clause-finds c =
    let bs = c.args.bytes.now in
    let is : slice_index bs 0 ≡ 67 = grind (arith, common_steps) in
    λ v h e.
    let s = at_count _ (λ n. refl) bs c.read-in-67.result c.read-in-67.ensures is v h e in
    let n : c.in_ok-read-in-67.field-0 ≡ s.0 = cc (c.in_ok-read-in-67.was, s.2) in
    let fits : c.in_ok-read-in-67.field-0 < 65536 = omega (arith, s.1) in
    cc (c.in_err-ok-in-67.was, c.ok.ensures.value, converted c.try_from.result c.in_ok-read-in-67.field-0 c.try_from.ensures fits)

pub returns-in_ok-ok-in-67-clause-finds : goal.returns-in_ok-ok-in-67-clause-finds
returns-in_ok-ok-in-67-clause-finds c =
    let bs = c.args.bytes.now in
    let is : slice_index bs 0 ≡ 67 = grind (arith, common_steps) in
    λ v h e.
    let s = at_count _ (λ n. refl) bs c.read-in-67.result c.read-in-67.ensures is v h e in
    let n : c.in_ok-read-in-67.field-0 ≡ s.0 = cc (c.in_ok-read-in-67.was, s.2) in
    let fits : c.in_ok-read-in-67.field-0 < 65536 = omega (arith, s.1) in
    cc (c.in_ok-ok-in-67.was, c.ok.ensures.value, converted c.try_from.result c.in_ok-read-in-67.field-0 c.try_from.ensures fits, s.3)
