-- What holds of each element of a list, and of one more. Assumes nothing.
use Rattle.std.proofs.Common.{◌≡◌, ℕ, ◌+◌, ◌<◌, List, [], ◌∷◌, ◌++◌, length, get_or, sym, ap, ◌∙◌, subst, ⊎_elim, arith}
use Rattle.std.proofs.lemmas.List.{get_or_append_left, get_or_push}
use Rattle.std.proofs.lemmas.Bool.{cases_lt}

pub every_push : {X : Type 0} (d : X) (P : X → Type 0) (xs ys : List X) (a : X) (n l : ℕ) → ys ≡ xs ++ a ∷ [] → n ≡ length xs → l ≡ n + 1
    → ((k : ℕ) → k < n → P (get_or xs k d)) → P a → (k : ℕ) → k < l → P (get_or ys k d)
every_push d P xs ys a n l e hn hl old new k h =
    ⊎_elim
    (λ q. subst P (sym (ap (λ z. get_or z k d) e ∙ get_or_append_left xs (a ∷ []) d k (omega arith))) (old k q))
    (λ q. subst P (sym (ap (λ z. get_or z k d) e ∙ get_or_push xs a d k (omega arith))) new)
    (cases_lt k n)
