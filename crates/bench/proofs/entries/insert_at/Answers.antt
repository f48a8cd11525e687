use Rattle.std.proofs.Common.{◌≡◌, ◌+◌, ◌-◌, ◌<◌, ◌≤◌, ℕ, ◌∷◌, ◌++◌, [], List, length, take, drop, set, sym, ap, ◌∙◌, append_assoc, length-drop, arith}
use Rattle.std.proofs.Math.Seq.{take-set-lt}
use Rattle.std.specs.List.{copy_within, insert}
use Rattle.std.proofs.lemmas.List.{length-take, take-take, drop-take, take_more_set, set-append_left}
use Rattle.std.proofs.lemmas.List.Edits.{take-paste}
use Rattle.bench.proofs.entries.insert_at.Goals as goal

opened : {X : Type 0} (xs moved : List X) (at n : ℕ) (x : X) → at ≤ n → n < length xs → length moved ≡ length xs → moved ≡ copy_within xs at n (at + 1) →
    take (n + 1) (set moved at x) ≡ insert (take n xs) at x
opened xs moved at n x le room len is =
    let m = n - at in
    let rest = take m (drop at xs) in
    let total : n + 1 ≡ at + 1 + m = omega arith in
    let whole : at + m ≡ n = omega arith in
    let front : take (at + 1 + m) moved ≡ take (at + 1) xs ++ rest =
    ap (take (at + 1 + m)) is ∙ take-paste xs (at + 1) (drop at xs) m (omega arith) (simp length-drop (omega arith)) in
    let written : set (take (at + 1) xs) at x ≡ take at xs ++ x ∷ [] = sym (take-set-lt (at + 1) xs at x (omega arith)) ∙ take_more_set xs at x (omega arith) in
    let first : at < length (take (at + 1) xs) = simp length-take (omega arith) in
    let last : drop at (take n xs) ≡ rest = ap (λ z. drop at (take z xs)) (sym whole) ∙ drop-take at m xs in
    take-set-lt (n + 1) moved at x (omega arith) ∙ ap (λ z. set (take z moved) at x) total ∙ ap (λ z. set z at x) front
    ∙ set-append_left (take (at + 1) xs) rest at x first ∙ ap (λ z. z ++ rest) written ∙ append_assoc (take at xs) (x ∷ []) rest
    ∙ sym (ap (λ z. z ++ x ∷ drop at (take n xs)) (take-take at n xs le) ∙ ap (λ z. take at xs ++ x ∷ z) last)

pub returns : goal.returns
returns g c = opened c.args.entries.now c.copy_within.new.self c.args.at c.args.count c.args.entry c.requires.0 c.requires.1 c.copy_within.ensures.len c.copy_within.ensures.after
