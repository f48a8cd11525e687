-- Bytes before the zeros at the end of a row, and what a row that is made keeps. Assumes nothing.
use Rattle.std.specs.Prelude.{◌≡◌, ℕ, zero, suc, ◌+◌, ◌-◌, ◌≤◌, true, false, ◌↔◌, List, [], ◌∷◌, ◌++◌, length, replicate, refl}
use Rattle.std.proofs.Common.{sym, ap, subst, ◌∙◌, arith}
use Rattle.std.specs.List.{list_all}
use Rattle.std.proofs.lemmas.Bool.{and_parts, both_ways}
use Rattle.std.proofs.lemmas.Slice.Eq.{compares_Decides}
use Rattle.kinds.specs.Filed.{Tied}
use Rattle.kinds.specs.Texts.{trimmed_from, trimmed, bytes_of, equal, house, Kept}

-- a row is its trimmed bytes and zeros
pub padded : (xs : List ℕ) → (n : ℕ) × (n + length (trimmed xs) ≡ length xs) × (xs ≡ trimmed xs ++ replicate n 0)
padded [] = (0, refl, refl)
padded (zero ∷ xs) = go (trimmed xs) (padded xs)
  where
    go : (t : List ℕ) → (n : ℕ) × (n + length t ≡ length xs) × (xs ≡ t ++ replicate n 0) → (n : ℕ) × (n + length (trimmed_from 0 t) ≡ suc (length xs)) × (zero ∷ xs ≡ trimmed_from 0 t ++ replicate n 0)
    go [] p = (suc p.0, omega arith, ap (λ (l : List ℕ). 0 ∷ l) p.2)
    go (y ∷ ys) p = (p.0, omega arith, ap (λ (l : List ℕ). 0 ∷ l) p.2)
padded (suc x ∷ xs) = let p = padded xs in (p.0, omega arith, ap (λ (l : List ℕ). suc x ∷ l) p.2)

-- two rows of one length with equal trimmed bytes are equal
pub trimmed_same : (xs ys : List ℕ) → length xs ≡ length ys → trimmed xs ≡ trimmed ys → xs ≡ ys
trimmed_same xs ys long e =
    let p = padded xs in
    let q = padded ys in
    let n : p.0 ≡ q.0 = omega (arith, ap length e) in
    p.2 ∙ ap (λ (t : List ℕ). t ++ replicate p.0 0) e ∙ ap (λ (n : ℕ). trimmed ys ++ replicate n 0) n ∙ sym q.2

trimmed_zeros : (n : ℕ) → trimmed (replicate n 0) ≡ []
trimmed_zeros zero = refl
trimmed_zeros (suc n) = rw (trimmed_zeros n)

-- what is made of house bytes means those bytes
pub trimmed_house : (bs : List ℕ) (n : ℕ) → list_all house bs ≡ true → trimmed (bs ++ replicate n 0) ≡ bs
trimmed_house [] n h = trimmed_zeros n
trimmed_house (zero ∷ bs) n h = absurd (both_ways false refl h)
trimmed_house (suc b ∷ bs) n h = ap (λ (l : List ℕ). suc b ∷ l) (trimmed_house bs n (and_parts (house (suc b)) _ h).1)

-- a row that is made of legal bytes keeps what every label that is made keeps
pub kept_of : (row xs : List ℕ) → trimmed row ≡ xs → row ≡ xs ++ replicate (16 - length xs) 0 → 1 ≤ length xs → length xs ≤ 16 → list_all house xs ≡ true → Kept (record { bytes = row })
kept_of row xs means is some few letters =
    record {
      some = subst (λ (l : List ℕ). 1 ≤ length l) (sym means) some;
      few = subst (λ (l : List ℕ). length l ≤ 16) (sym means) few;
      letters = ap (list_all house) means ∙ letters;
      padded = is ∙ ap (λ (l : List ℕ). l ++ replicate (16 - length l) 0) (sym means);
    }

-- the test of equal lists tells whether they are one
pub equal_exact : (xs ys : List ℕ) → (equal xs ys ≡ true) ↔ (xs ≡ ys)
equal_exact = compares_Decides equal (record { empty = refl; shorter = λ y ys. refl; longer = λ x xs. refl; heads = λ x y xs ys. refl })

-- the text of a text label is its meaning
pub text_tied : Tied bytes_of bytes_of
text_tied = record { one_meaning = λ s t e. e; one_text = λ s t e. e }
