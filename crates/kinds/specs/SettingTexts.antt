-- Texts of settings: their lengths, and back from a text to its setting. Assumes nothing.
use Rattle.std.specs.Prelude.{◌≡◌, ℕ, ◌^◌, ◌<◌, ◌≤◌, Bool, true, false, cond, ◌↔◌, T, List, length, drop, Ok, Err, slice_index, refl, to_bits, Float}
use Rattle.std.specs.Float.{binary32}
use Rattle.std.specs.Float.Ieee.{fits}
use Rattle.std.specs.Float.Ieee.Bits.{to_bits-lt}
use Rattle.std.proofs.Common.{ap, subst, arith}
use Rattle.std.proofs.lemmas.Bool.{both_ways, cond-true, eqb-true, eq-eqb}
use Rattle.kinds.specs.declared.refusal.Refusal.TheVariants.{Setting as BadSetting}
use Rattle.kinds.specs.declared.setting.SettingLabel.{SettingLabel}
use Rattle.kinds.specs.declared.setting.Setting.{Setting}
use Rattle.kinds.specs.Digits.{spelled}
use Rattle.kinds.specs.Filed.{Tied}
use Rattle.kinds.specs.declared.setting.Setting.TheVariants.{Seconds, Metres, Count, Mark}
use Rattle.kinds.specs.Settings.{Meant, seconds, metres, count, mark, meant, meant_by, alike_meant, legal, making, text_of, setting_text, Holds, Made}
use Rattle.kinds.specs.Spelled.{spelled_long, spelled_short, same_from_spelled}

heads : (l k : List ℕ) → l ≡ k → slice_index l 0 ≡ slice_index k 0
heads l k e = ap (λ (x : List ℕ). slice_index x 0) e

-- two meanings with one text are one
text_back : (x y : Meant) → text_of x ≡ text_of y → x ≡ y
text_back (seconds m) (seconds n) e = ap seconds (same_from_spelled 16 8 m n (omega arith) (ap (drop 2) e))
text_back (seconds m) (metres n) e = absurd (omega (arith, heads _ _ e))
text_back (seconds m) (count n) e = absurd (omega (arith, heads _ _ e))
text_back (seconds m) mark e = absurd (omega (arith, heads _ _ e))
text_back (metres m) (seconds n) e = absurd (omega (arith, heads _ _ e))
text_back (metres m) (metres n) e = ap metres (same_from_spelled 16 8 m n (omega arith) (ap (drop 2) e))
text_back (metres m) (count n) e = absurd (omega (arith, heads _ _ e))
text_back (metres m) mark e = absurd (omega (arith, heads _ _ e))
text_back (count m) (seconds n) e = absurd (omega (arith, heads _ _ e))
text_back (count m) (metres n) e = absurd (omega (arith, heads _ _ e))
text_back (count m) (count n) e = ap count (same_from_spelled 10 1 m n (omega arith) (ap (drop 2) e))
text_back (count m) mark e = absurd (omega (arith, heads _ _ e))
text_back mark (seconds n) e = absurd (omega (arith, heads _ _ e))
text_back mark (metres n) e = absurd (omega (arith, heads _ _ e))
text_back mark (count n) e = absurd (omega (arith, heads _ _ e))
text_back mark mark e = refl

pub setting_tied : Tied setting_text meant
setting_tied = record { one_meaning = λ x y e. text_back (meant x) (meant y) e; one_text = λ x y e. ap text_of e }

-- meanings that are told to be one are one, and a meaning is told to be one with itself
alike_one : (m n : Meant) → alike_meant m n ≡ true → m ≡ n
alike_one (seconds m) (seconds n) e = ap seconds (eqb-true m n e)
alike_one (seconds m) (metres n) e = absurd (both_ways false refl e)
alike_one (seconds m) (count n) e = absurd (both_ways false refl e)
alike_one (seconds m) mark e = absurd (both_ways false refl e)
alike_one (metres m) (seconds n) e = absurd (both_ways false refl e)
alike_one (metres m) (metres n) e = ap metres (eqb-true m n e)
alike_one (metres m) (count n) e = absurd (both_ways false refl e)
alike_one (metres m) mark e = absurd (both_ways false refl e)
alike_one (count m) (seconds n) e = absurd (both_ways false refl e)
alike_one (count m) (metres n) e = absurd (both_ways false refl e)
alike_one (count m) (count n) e = ap count (eqb-true m n e)
alike_one (count m) mark e = absurd (both_ways false refl e)
alike_one mark (seconds n) e = absurd (both_ways false refl e)
alike_one mark (metres n) e = absurd (both_ways false refl e)
alike_one mark (count n) e = absurd (both_ways false refl e)
alike_one mark mark e = refl

alike_self : (m : Meant) → alike_meant m m ≡ true
alike_self (seconds n) = eq-eqb n n refl
alike_self (metres n) = eq-eqb n n refl
alike_self (count n) = eq-eqb n n refl
alike_self mark = refl

-- whether two labels have one meaning is told exactly
pub settings_exact : (s t : SettingLabel) → (alike_meant (meant s) (meant t) ≡ true) ↔ (meant s ≡ meant t)
settings_exact s t = (alike_one (meant s) (meant t), λ e. subst (λ (n : Meant). alike_meant (meant s) n ≡ true) e (alike_self (meant s)))

-- ---- how long the digits are

pub pattern_long : (n : ℕ) → n < 2 ^ 32 → length (spelled 16 8 n) ≡ 8
pattern_long n h = spelled_long 16 8 n (omega arith) (omega arith) (omega arith)

pub count_short : (n : ℕ) → n < 65536 → length (spelled 10 1 n) ≤ 5
count_short n h = spelled_short 10 5 n (omega arith) (omega arith) (omega arith)

-- the digits of a float that 32 bits hold
pattern_fits : (x : Float) → T (fits binary32 x) → length (spelled 16 8 (to_bits binary32 x)) ≤ 8
pattern_fits x h = omega (arith, pattern_long (to_bits binary32 x) (to_bits-lt binary32 x h))

-- the text of a label that making gives
pub made_short : (s : SettingLabel) → Made s → length (setting_text s) ≤ 10
made_short s made = go s.setting made.0
  where
    go : (v : Setting) → Holds v → length (text_of (meant_by v)) ≤ 10
    go (Seconds x) h = omega (arith, pattern_fits x h)
    go (Metres x) h = omega (arith, pattern_fits x h)
    go (Count n) h = omega (arith, count_short n h)
    go Mark h = omega arith

-- ---- labels that making gives

pub legal_made : (v : Setting) → legal v ≡ true → making v ≡ Ok (record { setting = v })
legal_made v h = cond-true (legal v) _ _ h

pub made_legal : (s : SettingLabel) → making s.setting ≡ Ok s → legal s.setting ≡ true
made_legal s e = go (legal s.setting) refl e
  where
    go : (b : Bool) → legal s.setting ≡ b → cond b (Ok (record { setting = s.setting })) (Err BadSetting) ≡ Ok s → legal s.setting ≡ true
    go true l e = l
    go false l e = absurd (let z : ◌≡◌ {A = ℕ} 0 1 = cc in omega arith)
