-- What making a text label answers, and what reading a text answers. Assumes nothing.
use Rattle.std.proofs.Common.{◌≡◌, ℕ, ◌-◌, ◌≤◌, Bool, true, false, cond, ◌&&◌, leb, List, ◌++◌, length, drop, replicate, Ok, Err, Result, sym, refl, ap, ◌∙◌, subst, arith, MatchResult}
use Rattle.std.specs.List.{list_all}
use Rattle.std.proofs.lemmas.List.{drop-replicate}
use Rattle.std.proofs.lemmas.Bool.{and_parts, le-leb, leb-true, cond-true, cond-false, both_ways}
use Rattle.kinds.specs.declared.refusal.Refusal.{Refusal}
use Rattle.kinds.specs.declared.refusal.Refusal.TheVariants.{Text}
use Rattle.kinds.specs.declared.text.TextLabel.{TextLabel}
use Rattle.kinds.specs.Texts.{trimmed, bytes_of, house, legal, label_of, making, Kept, Made}
use Rattle.kinds.specs.Trims.{trimmed_house, kept_of}

-- the bytes of a text, and zeros up to sixteen
pub filled : (xs row : List ℕ) → row ≡ xs → row ++ drop (length xs) (replicate 16 0) ≡ (label_of xs).bytes
filled xs row is = ap (λ (l : List ℕ). l ++ drop (length xs) (replicate 16 0)) is ∙ ap (λ (l : List ℕ). xs ++ l) (drop-replicate (length xs) 16 0)

-- a text of a right length is a label's if its letters are of the alphabet
pub legal_by_letters : (xs : List ℕ) (said : Bool) → 1 ≤ length xs → length xs ≤ 16 → said ≡ list_all house xs → said ≡ legal xs
legal_by_letters xs said some few is = rw (le-leb 1 (length xs) some, le-leb (length xs) 16 few) is

-- a text that is a label's has letters of the alphabet
letters : (xs : List ℕ) → legal xs ≡ true → list_all house xs ≡ true
letters xs h = (and_parts (leb (length xs) 16) (list_all house xs) (and_parts (leb 1 (length xs)) (leb (length xs) 16 && list_all house xs) h).1).1

-- the row of the bytes of a label's text, and zeros, is the label that making gives
pub made : (xs row : List ℕ) → legal xs ≡ true → row ≡ (label_of xs).bytes → (Ok (record { bytes = row }) ≡ making xs) × (trimmed row ≡ xs) × Kept (record { bytes = row })
made xs row h is =
    let sizes = and_parts (leb 1 (length xs)) (leb (length xs) 16 && list_all house xs) h in
    let means : trimmed row ≡ xs = ap trimmed is ∙ trimmed_house xs (16 - length xs) (letters xs h) in (
      ap (λ (l : List ℕ). Ok (record { bytes = l })) is ∙ sym (cond-true (legal xs) _ _ h),
      means,
      kept_of row xs means is (leb-true 1 (length xs) sizes.0) (leb-true (length xs) 16 (and_parts (leb (length xs) 16) (list_all house xs) sizes.1).0) (letters xs h),
    )

-- what making answers is what reading the text answers
abbrev Answered : List ℕ → Result TextLabel Refusal → Type 0
Answered bs r = MatchResult r (λ t. Made t × (bytes_of t ≡ bs)) (λ e. (e ≡ Text) × ((t : TextLabel) → Made t → bytes_of t ≡ bs → ⊥))

pub reads : (bs : List ℕ) (r : Result TextLabel Refusal) → r ≡ making bs → Answered bs r
reads bs r is = subst (Answered bs) (sym is) (go (legal bs) refl)
  where
    means : (xs : List ℕ) → legal xs ≡ true → bytes_of (label_of xs) ≡ xs
    means xs h = trimmed_house xs (16 - length xs) (letters xs h)

    -- a label that is made has the bytes that it was made of
    made_of : (xs : List ℕ) (t : TextLabel) (b : Bool) → legal xs ≡ b → cond b (Ok (label_of xs)) (Err Text) ≡ Ok t → (legal xs ≡ true) × (label_of xs ≡ t)
    made_of xs t true l e = (l, cc)
    made_of xs t false l e = absurd (let z : ◌≡◌ {A = ℕ} 0 1 = cc in omega arith)

    none : legal bs ≡ false → (t : TextLabel) → Made t → bytes_of t ≡ bs → ⊥
    none wrong t m e =
        let p = made_of m.0 t (legal m.0) refl m.1 in
        let same : m.0 ≡ bs = sym (means m.0 p.0) ∙ ap bytes_of p.1 ∙ e in
        both_ways (legal bs) wrong (sym (ap legal same) ∙ p.0)

    go : (b : Bool) → legal bs ≡ b → Answered bs (making bs)
    go true l = subst (Answered bs) (sym (cond-true (legal bs) (Ok (label_of bs)) (Err Text) l)) ((bs, cond-true (legal bs) _ _ l), means bs l)
    go false l = subst (Answered bs) (sym (cond-false (legal bs) (Ok (label_of bs)) (Err Text) l)) (refl, none l)
