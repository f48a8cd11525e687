-- Setting labels: the meaning, what making one gives, and the texts. Assumes nothing.
--
--   Meant             a meaning: the sort with the value
--   meant_by v        the meaning of the setting v; a float counts by its bit pattern, and a float that is
--                     no number by the pattern 7FC00000
--   meant s           the meaning of the label s
--   alike_meant m n   whether two meanings are one
--   inside x          whether the float x is a number from 0 to 9,999
--   legal v           whether the value of v is in its sort's range
--   making v          what making a label of v answers
--   text_of m         the text of a label that means m
--   setting_text s    the text of the label s
--   Holds v           that 32 bits hold the float of v, and sixteen its count
--   Made s            that making gives s, of a setting that the machine holds
use Rattle.std.specs.Prelude.{◌≡◌, ℕ, ◌*◌, ◌<◌, Bool, true, false, cond, not, ◌&&◌, ◌||◌, T, List, [], ◌∷◌, Ok, Err, Result, ◌==◌, nat_le, to_bits, Float}
use Rattle.std.specs.Float.{nan, inf, fin, binary32}
use Rattle.std.specs.Float.Ieee.{fits, up, down}
use Rattle.kinds.specs.declared.refusal.Refusal.{Refusal}
use Rattle.kinds.specs.declared.refusal.Refusal.TheVariants.{Setting as BadSetting}
use Rattle.kinds.specs.declared.setting.SettingLabel.{SettingLabel}
use Rattle.kinds.specs.declared.setting.Setting.{Setting}
use Rattle.kinds.specs.declared.setting.Setting.TheVariants.{Seconds, Metres, Count, Mark}
use Rattle.kinds.specs.Digits.{spelled}

pub data Meant : Type 0 where
  seconds metres count : ℕ → Meant
  mark : Meant

abbrev pub meant_by : Setting → Meant
meant_by (Seconds x) = seconds (to_bits binary32 x)
meant_by (Metres x) = metres (to_bits binary32 x)
meant_by (Count n) = count n
meant_by Mark = mark

abbrev pub meant : SettingLabel → Meant
meant s = meant_by s.setting

abbrev pub alike_meant : Meant → Meant → Bool
alike_meant (seconds m) (seconds n) = m == n
alike_meant (metres m) (metres n) = m == n
alike_meant (count m) (count n) = m == n
alike_meant mark mark = true
alike_meant _ _ = false

-- a number is a sign, m and e, and is m * 2 ^ e, which is m * up e / down e
abbrev pub inside : Float → Bool
inside nan = false
inside (inf s) = false
inside (fin s m e) = (not s || m == 0) && nat_le (m * up e) (9999 * down e)

-- minus zero is a legal value
abbrev pub legal : Setting → Bool
legal (Seconds x) = inside x
legal (Metres x) = inside x
legal (Count n) = true
legal Mark = true

abbrev pub making : Setting → Result SettingLabel Refusal
making v = cond (legal v) (Ok (record { setting = v })) (Err BadSetting)

-- `S:` or `L:` and eight hexadecimal capitals of the pattern, `C:` and the count, `M`
abbrev pub text_of : Meant → List ℕ
text_of (seconds n) = 83 ∷ 58 ∷ spelled 16 8 n
text_of (metres n) = 76 ∷ 58 ∷ spelled 16 8 n
text_of (count n) = 67 ∷ 58 ∷ spelled 10 1 n
text_of mark = 77 ∷ []

abbrev pub setting_text : SettingLabel → List ℕ
setting_text s = text_of (meant s)

abbrev pub Holds : Setting → Type 0
Holds (Seconds x) = T (fits binary32 x)
Holds (Metres x) = T (fits binary32 x)
Holds (Count n) = n < 65536
Holds Mark = Unit {0}

abbrev pub Made : SettingLabel → Type 0
Made s = Holds s.setting × (making s.setting ≡ Ok s)
