-- Text labels: the alphabet, the meaning, and what making one gives. Assumes nothing.
--
--   trimmed bs     the bytes before the zeros at the end of bs
--   bytes_of t     the bytes of the label t, which are its meaning
--   equal as bs    whether two lists of bytes are one
--   house b        whether the byte b is in the alphabet: A to Z, a to z, 0 to 9, and - . _ /
--   legal bs       whether bs is a label's text: 1 to 16 bytes, all in the alphabet
--   label_of bs    the label of the text bs: its bytes, then zeros, sixteen in all
--   making bs      what making a label of the text bs answers
--   Kept t         what every label that is made keeps
--   Made t         that making gives t
use Rattle.std.specs.Prelude.{◌≡◌, ℕ, zero, suc, ◌-◌, ◌≤◌, Bool, true, false, cond, ◌&&◌, ◌||◌, List, [], ◌∷◌, ◌++◌, length, replicate, Ok, Err, Result, ◌==◌, nat_le}
use Rattle.std.specs.List.{list_all}
use Rattle.kinds.specs.declared.refusal.Refusal.{Refusal}
use Rattle.kinds.specs.declared.refusal.Refusal.TheVariants.{Text}
use Rattle.kinds.specs.declared.text.TextLabel.{TextLabel}

-- a byte before what is left once the zeros at the end are taken off
abbrev pub trimmed_from : ℕ → List ℕ → List ℕ
trimmed_from zero [] = []
trimmed_from zero (b ∷ bs) = zero ∷ b ∷ bs
trimmed_from (suc a) bs = suc a ∷ bs

abbrev pub trimmed : List ℕ → List ℕ
trimmed [] = []
trimmed (b ∷ bs) = trimmed_from b (trimmed bs)

abbrev pub bytes_of : TextLabel → List ℕ
bytes_of t = trimmed t.bytes

abbrev pub equal : List ℕ → List ℕ → Bool
equal [] [] = true
equal [] (b ∷ bs) = false
equal (a ∷ more) [] = false
equal (a ∷ more) (b ∷ bs) = a == b && equal more bs

abbrev pub between : ℕ → ℕ → ℕ → Bool
between low high b = nat_le low b && nat_le b high

abbrev pub house : ℕ → Bool
house b =
    between 65 90 b || (between 97 122 b || (between 48 57 b || (b == 45 || (b == 46 || (b == 95 || b == 47)))))

abbrev pub legal : List ℕ → Bool
legal bs = nat_le 1 (length bs) && (nat_le (length bs) 16 && list_all house bs)

abbrev pub label_of : List ℕ → TextLabel
label_of bs = record { bytes = bs ++ replicate (16 - length bs) 0 }

abbrev pub making : List ℕ → Result TextLabel Refusal
making bs = cond (legal bs) (Ok (label_of bs)) (Err Text)

pub record Kept (t : TextLabel) : Type 0 where
  pub some : 1 ≤ length (bytes_of t)
  pub few : length (bytes_of t) ≤ 16
  pub letters : list_all house (bytes_of t) ≡ true
  pub padded : t.bytes ≡ bytes_of t ++ replicate (16 - length (bytes_of t)) 0

abbrev pub Made : TextLabel → Type 0
Made t = (bs : List ℕ) × (making bs ≡ Ok t)
