-- A buffer that a text is written over, and the answers of a write. Assumes nothing.
use Rattle.std.proofs.Common.{◌≡◌, ℕ, List, [], ◌++◌, length, take, drop, sym, ap, ◌∙◌}
use Rattle.std.proofs.lemmas.List.{take_at}
use Rattle.bounded.specs.declared.list.Bounded.{Bounded}
use Rattle.bounded.specs.Lists.{held, spare, room, Appended}
use Rattle.bounded.proofs.Appends.{slots_are}
use Rattle.kinds.specs.Filed.{overlaid}

-- an empty list has as much room as its buffer
pub listed_room : (b : Bounded ℕ) {old : List ℕ} → held b ≡ [] → spare b ≡ old → room b ≡ length old
listed_room b none all = ap length (slots_are b ∙ ap (λ (l : List ℕ). l ++ spare b) none ∙ all)

-- a list that began empty over the buffer and got the text lies in the buffer with the text written over it
pub listed : (old : List ℕ) (b c : Bounded ℕ) (text : List ℕ) → held b ≡ [] → spare b ≡ old → Appended b c text → c.slots.now ≡ overlaid text old
listed old b c text none all got =
    slots_are c
    ∙ ap (λ (l : List ℕ). l ++ spare c) (got.items ∙ ap (λ (l : List ℕ). l ++ text) none)
    ∙ ap (λ (l : List ℕ). text ++ l) (got.rest ∙ ap (drop (length text)) all)

-- the text at the start of a buffer that it was written over
pub text_first : (text old : List ℕ) (n : ℕ) → n ≡ length text → take n (overlaid text old) ≡ text
text_first text old n is = take_at text (drop (length text) old) n (sym is)
