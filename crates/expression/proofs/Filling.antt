-- A table that is filled from its first place on, or by a function of the place. Assumes nothing.
use Rattle.std.proofs.Common.{◌≡◌, ℕ, zero, suc, ◌+◌, ◌<◌, ◌≤◌, ◌≢◌, List, length, get_or, set, sym, ap, ◌∙◌, subst, ⊎_elim, arith, get_or-set_other, get_or-set_same, below_more}
use denote.Param.Members.{Mut}
use Rattle.std.specs.Fn.{Called}
use Rattle.std.specs.Array.{IsFromFnResultFrom}
use Rattle.std.proofs.lemmas.Bool.{cases_eq}

pub filled_more : {X : Type 0} (xs : List X) (i : ℕ) (x d : X) (F : ℕ → X) → i < length xs
    → ((k : ℕ) → k < i → get_or xs k d ≡ F k) → x ≡ F i → (k : ℕ) → k < i + 1 → get_or (set xs i x) k d ≡ F k
filled_more xs i x d F l below here =
    below_more (λ k. get_or (set xs i x) k d ≡ F k) i
    (λ k h. let ne : k ≢ i = omega arith in get_or-set_other xs i k x d ne ∙ below k h)
    (get_or-set_same xs i x d l ∙ here)

-- calls of a closure that stays as it is, one for each place
pub filled_by : {F B : Type 0} (g : Mut F (ℕ × Unit {0}) B) (f : F) (ys : List B) (d : B) (G : ℕ → B)
    → ((i : ℕ) (y : B) (q : F) → Called g f (i, tt) y q → (q ≡ f) × (y ≡ G i))
    → (n i : ℕ) → IsFromFnResultFrom g f ys i n → (k : ℕ) → i ≤ k → k < i + n → get_or ys k d ≡ G k
filled_by g f ys d G made zero i h k l m = absurd (omega arith)
filled_by {F} {B} g f ys d G made (suc n) i (q, y, e, z, more) k l m =
    let t = made i y q z in
    ⊎_elim
    (λ (w : k ≡ i). ap (λ (j : ℕ). get_or ys j d) w ∙ e.1 d ∙ t.1 ∙ ap G (sym w))
    (λ (w : k ≡ i → ⊥).
    filled_by g f ys d G made n (i + 1) (subst (λ (p : F). IsFromFnResultFrom g p ys (i + 1) n) t.0 more) k (omega arith) (omega arith))
    (cases_eq k i)
