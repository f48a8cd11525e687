use Rattle.std.proofs.Common.{ℕ, ◌<◌, ◌^◌, List, subst, arith}
use Rattle.std.proofs.lemmas.List.{take_all}
use Rattle.kinds.specs.Digits.{radix_of, Spells}
use Rattle.kinds.specs.Spelled.{two_digits, next_digit, spells_more}
use Rattle.kinds.proofs.digits.Base.read.Goals as goal

pub returns-in_err-n : goal.returns-in_err-n
returns-in_err-n c =
    let b = radix_of c.args.self in
    let bs = c.args.digits.now in
    let none : (n : ℕ) → n < 2 ^ 32 → Spells b bs n → ⊥ = λ n fits whole.
    let two = two_digits c.args.self in
    let next = next_digit b bs c.loop-byte.byte-index c.loop-byte.n n (omega arith) c.loop-byte-test.true c.loop-byte.invariant whole in
    let over = c.in_err-n.ensures next.0 next.1 next.2 in omega (arith, next.3) in
    rw c.from_residual.ensures none

pub loop-byte-preserved : goal.loop-byte-preserved
loop-byte-preserved c =
    let m = c.in_ok-n.ensures in
    rw m.3 (spells_more (radix_of c.args.self) c.args.digits.now c.loop-byte.byte-index c.loop-byte.n m.0 c.loop-byte-test.true c.loop-byte.invariant m.1 m.2)

pub returns : goal.returns
returns c =
    subst (λ (l : List ℕ). Spells (radix_of c.args.self) l c.loop-byte.n) (take_all c.loop-byte.byte-index c.args.digits.now c.loop-byte-test.false) c.loop-byte.invariant
