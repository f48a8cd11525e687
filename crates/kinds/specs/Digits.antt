-- Numbers as digits. Assumes nothing.
--
--   radix_of base     how many digits a base has
--   glyph_of d        the byte of the digit d: 0 to 9, then A to F
--   spelled b w n     the digits of n in the base b, with zeros in front of fewer than w
--   Spells b bs n     the bytes bs are digits in the base b, and come to n
use Rattle.std.specs.Prelude.{◌≡◌, ℕ, ◌+◌, ◌-◌, cond, List, ◌++◌, map, length, replicate, nat_lt}
use Rattle.std.specs.Int.Digits.{digits_of, number_from_digits, AllBelowBase}
use Rattle.kinds.specs.declared.digits.Base.{Base}
use Rattle.kinds.specs.declared.digits.Base.TheVariants.{Ten, Sixteen}

abbrev pub radix_of : Base → ℕ
radix_of Ten = 10
radix_of Sixteen = 16

abbrev pub glyph_of : ℕ → ℕ
glyph_of d = cond (nat_lt d 10) (48 + d) (55 + d)

abbrev pub padded : ℕ → ℕ → ℕ → List ℕ
padded base width n = replicate (width - length (digits_of base n)) 0 ++ digits_of base n

abbrev pub spelled : ℕ → ℕ → ℕ → List ℕ
spelled base width n = map glyph_of (padded base width n)

pub record Spells (base : ℕ) (bs : List ℕ) (n : ℕ) : Type 0 where
  pub digits : List ℕ
  pub below : AllBelowBase base digits
  pub glyphs : map glyph_of digits ≡ bs
  pub number : number_from_digits base digits ≡ n
