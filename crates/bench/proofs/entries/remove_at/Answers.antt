use Rattle.std.proofs.Common.{◌≡◌, ◌+◌, ◌-◌, ◌<◌, ◌≤◌, ◌++◌, ℕ, suc, List, length, take, drop, sym, ap, ◌∙◌, add-one, length-drop, arith}
use Rattle.std.specs.List.{copy_within, remove}
use Rattle.std.proofs.lemmas.List.{take-take, drop-take}
use Rattle.std.proofs.lemmas.List.Edits.{take-paste}
use Rattle.bench.proofs.entries.remove_at.Goals as goal

closed : {X : Type 0} (xs moved : List X) (at n : ℕ) → at < n → n ≤ length xs → moved ≡ copy_within xs (at + 1) n at → take (n - 1) moved ≡ remove (take n xs) at
closed xs moved at n lt le is =
    let m = n - (at + 1) in
    let less : n - 1 ≡ at + m = omega arith in
    let whole : at + 1 + m ≡ n = omega arith in
    let front : take (at + m) moved ≡ take at xs ++ take m (drop (at + 1) xs) =
    ap (take (at + m)) is ∙ take-paste xs at (drop (at + 1) xs) m (omega arith) (simp length-drop (omega arith)) in
    let rest : drop (suc at) (take n xs) ≡ take m (drop (at + 1) xs) =
    ap (λ z. drop z (take n xs)) (sym (add-one at)) ∙ ap (λ z. drop (at + 1) (take z xs)) (sym whole) ∙ drop-take (at + 1) m xs in
    ap (λ z. take z moved) less ∙ front ∙ sym (ap (λ z. z ++ drop (suc at) (take n xs)) (take-take at n xs (omega arith)) ∙ ap (λ z. take at xs ++ z) rest)

pub returns-clause-taken : goal.returns-clause-taken
returns-clause-taken g c = closed c.args.entries.now c.copy_within.new.self c.args.at c.args.count c.requires.0 c.requires.1 c.copy_within.ensures.after
