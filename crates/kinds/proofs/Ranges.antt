-- What the two comparisons of a number of seconds or metres say. Assumes nothing.
use Rattle.std.proofs.Common.{◌≡◌, Bool, cond, Some, None, ℕ, zero, suc, ◌+◌, ◌*◌, ◌<◌, true, false, ◌&&◌, ◌||◌, eqb, ltb, leb, ℤ, pos, negsuc, refl, ap, ◌∙◌, zero-lt-suc, mul-pos, zero-mul, mul-one, arith, pow_pos}
use lib.Ieee.{Float, nan, inf, fin, binary32, up, down, le, lt, eq, of_bits, of_fields, odd}
use Rattle.std.proofs.lemmas.Bool.Decides.{nat_tests}
use Rattle.std.specs.Ordering.{partial_le, float_partial_cmp, is_some_and, is_le}
use Rattle.std.specs.declared.cmp.Ordering.TheVariants.{Less, Equal, Greater}
use Rattle.kinds.specs.Settings.{inside}

lit_zero : of_bits binary32 0 ≡ fin false 0 (pos 0)
unfolding of_bits of_fields odd
lit_zero = refl

lit_top : of_bits binary32 1176255488 ≡ fin false 9999 (pos 0)
unfolding of_bits of_fields odd
lit_top = refl

up_pos : (e : ℤ) → 0 < up e
up_pos (pos k) = pow_pos k
up_pos (negsuc k) = omega arith

down_pos : (e : ℤ) → 0 < down e
down_pos (pos k) = omega arith
down_pos (negsuc k) = pow_pos (suc k)

plus : (z a c b : ℕ) → z ≡ 0 → a ≡ c → ((ltb z a || (eqb z a && true)) && (ltb a b || (eqb a b && true))) ≡ leb c b
plus z a c b h k = grind (arith, nat_tests)

minus_none : (z a c b : ℕ) → z ≡ 0 → a ≡ 0 → c ≡ 0 → 0 < b → ((eqb z a && eqb z 0) && (ltb 0 (a + b) || (eqb a b && eqb a 0))) ≡ leb c b
minus_none z a c b h k l p = grind (arith, nat_tests)

minus_some : (z a c b m : ℕ) → z ≡ 0 → 0 < a → 0 < m → ((eqb z a && eqb z 0) && (ltb 0 (a + b) || (eqb a b && eqb a 0))) ≡ (eqb m 0 && leb c b)
minus_some z a c b m h k l = grind (arith, nat_tests)

between : (x : Float) → (le (fin false 0 (pos 0)) x && le x (fin false 9999 (pos 0))) ≡ inside x
unfolding le lt eq
between nan = refl
between (inf true) = refl
between (inf false) = refl
between (fin false m e) = plus (0 * down e) (m * up e * 1) (m * up e) (9999 * down e) (zero-mul (down e)) (mul-one (m * up e))
between (fin true zero e) = minus_none (0 * down e) (0 * up e * 1) (0 * up e) (9999 * down e) (zero-mul (down e)) (mul-one (0 * up e) ∙ zero-mul (up e)) (zero-mul (up e)) (let p = down_pos e in omega arith)
between (fin true (suc m) e) = minus_some (0 * down e) (suc m * up e * 1) (suc m * up e) (9999 * down e) (suc m) (zero-mul (down e)) (let p : 0 < suc m * up e = mul-pos (zero-lt-suc m) (up_pos e) in rw mul-one p) (zero-lt-suc m)

pub in_range_lem : (x : Float) → (le (of_bits binary32 0) x && le x (of_bits binary32 1176255488)) ≡ inside x
in_range_lem x = ap (λ (z : Float). le z x && le x (of_bits binary32 1176255488)) lit_zero ∙ ap (λ (z : Float). le (fin false 0 (pos 0)) x && le x z) lit_top ∙ between x

-- whether one float is at most another, as their order tells it
pub le_by_order : (x y : Float) → partial_le float_partial_cmp x y ≡ le x y
unfolding le
le_by_order x y = go (lt x y) (eq x y) (lt y x)
  where
    go : (a b c : Bool) → is_some_and is_le (cond a (Some Less) (cond b (Some Equal) (cond c (Some Greater) None))) ≡ (a || b)
    go true b c = refl
    go false true c = refl
    go false false true = refl
    go false false false = refl
