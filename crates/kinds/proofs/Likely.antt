-- The setting of a text, from its first byte and from what its field reads as. Assumes nothing.
use Rattle.std.proofs.Common.{◌≡◌, ℕ, ◌^◌, ◌<◌, List, ◌∷◌, drop, Some, None, Option, MatchOption, sym, ap, ◌∙◌, subst, refl, arith, slice_index}
use Rattle.std.specs.Float.{binary32}
use Rattle.std.specs.Prelude.{from_bits, to_bits, Float}
use Rattle.std.specs.Float.Ieee.Bits.{of_bits-to_bits, to_bits-lt}
use Rattle.kinds.specs.declared.field.Field.{Field}
use Rattle.kinds.specs.declared.setting.Setting.{Setting}
use Rattle.kinds.specs.declared.setting.Setting.TheVariants.{Seconds, Metres, Count, Mark}
use Rattle.kinds.specs.Digits.{radix_of, spelled, Spells}
use Rattle.kinds.specs.Fields.{field_text, Fills}
use Rattle.kinds.specs.Settings.{Meant, seconds, metres, count, meant_by, text_of, Holds}
use Rattle.kinds.specs.Spelled.{two_digits, spells, spells_one}

-- what reading a text as a field answers
abbrev Answered : Field → List ℕ → Option ℕ → Type 0
Answered f bs r = MatchOption r ((n : ℕ) → n < 2 ^ 32 → Fills f bs n → ⊥) (Fills f bs)

-- the field of a number reads as the number
reads : (f : Field) (bs : List ℕ) (r : Option ℕ) (n : ℕ) → Answered f bs r → n < 2 ^ 32 → field_text f n ≡ bs → r ≡ Some n
reads f bs None n none fits is =
    absurd (none n fits (record { rest = spelled (radix_of f.base) f.width n; begins = sym is; spells = spells (radix_of f.base) f.width n (two_digits f.base) }))
reads f bs (Some m) n fills fits is =
    let one : Spells (radix_of f.base) (spelled (radix_of f.base) f.width n) m = subst (λ (l : List ℕ). Spells (radix_of f.base) l m) (ap (drop 2) (sym fills.begins ∙ sym is)) fills.spells in
    ap (λ (k : ℕ). Some k) (spells_one (radix_of f.base) (spelled (radix_of f.base) f.width n) m n one (spells (radix_of f.base) f.width n (two_digits f.base)))

-- a field writes what a sort of settings is written as
abbrev Writes : Field → (ℕ → Meant) → Type 0
Writes f sort = (n : ℕ) → field_text f n ≡ text_of (sort n)

first : (a b : ℕ) (rest bs : List ℕ) → a ∷ rest ≡ bs → slice_index bs 0 ≡ b → a ≡ b
first a b rest bs e is = ap (λ (l : List ℕ). slice_index l 0) e ∙ is

-- a text that begins with an S is the text of seconds or of no setting
pub at_seconds : (f : Field) → Writes f seconds → (bs : List ℕ) (r : Option ℕ) → Answered f bs r → slice_index bs 0 ≡ 83 → (v : Setting) → Holds v → text_of (meant_by v) ≡ bs → (n : ℕ) × (r ≡ Some n) × (Seconds (from_bits binary32 n) ≡ v)
at_seconds f writes bs r read is (Seconds x) h e =
    (to_bits binary32 x, reads f bs r (to_bits binary32 x) read (to_bits-lt binary32 x h) (writes (to_bits binary32 x) ∙ e), ap (λ (y : Float). Seconds y) (of_bits-to_bits binary32 x h))
at_seconds f writes bs r read is (Metres x) h e = absurd (omega (arith, first _ _ _ bs e is))
at_seconds f writes bs r read is (Count n) h e = absurd (omega (arith, first _ _ _ bs e is))
at_seconds f writes bs r read is Mark h e = absurd (omega (arith, first _ _ _ bs e is))

-- with an L of metres
pub at_metres : (f : Field) → Writes f metres → (bs : List ℕ) (r : Option ℕ) → Answered f bs r → slice_index bs 0 ≡ 76 → (v : Setting) → Holds v → text_of (meant_by v) ≡ bs → (n : ℕ) × (r ≡ Some n) × (Metres (from_bits binary32 n) ≡ v)
at_metres f writes bs r read is (Seconds x) h e = absurd (omega (arith, first _ _ _ bs e is))
at_metres f writes bs r read is (Metres x) h e =
    (to_bits binary32 x, reads f bs r (to_bits binary32 x) read (to_bits-lt binary32 x h) (writes (to_bits binary32 x) ∙ e), ap (λ (y : Float). Metres y) (of_bits-to_bits binary32 x h))
at_metres f writes bs r read is (Count n) h e = absurd (omega (arith, first _ _ _ bs e is))
at_metres f writes bs r read is Mark h e = absurd (omega (arith, first _ _ _ bs e is))

-- and with a C of a count
pub at_count : (f : Field) → Writes f count → (bs : List ℕ) (r : Option ℕ) → Answered f bs r → slice_index bs 0 ≡ 67 → (v : Setting) → Holds v → text_of (meant_by v) ≡ bs → (n : ℕ) × (n < 65536) × (r ≡ Some n) × (Count n ≡ v)
at_count f writes bs r read is (Seconds x) h e = absurd (omega (arith, first _ _ _ bs e is))
at_count f writes bs r read is (Metres x) h e = absurd (omega (arith, first _ _ _ bs e is))
at_count f writes bs r read is (Count n) h e = (n, h, reads f bs r n read (omega arith) (writes n ∙ e), refl)
at_count f writes bs r read is Mark h e = absurd (omega (arith, first _ _ _ bs e is))
