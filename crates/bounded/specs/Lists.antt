-- A bounded list over slots that its maker lends. Assumes nothing.
--
--   held b             the list: the first `len` slots, or all of them where `len` is more
--   spare b            the slots past the list
--   room b             how many elements the list can have: as many as there are slots
--   Appended b c xs    c is the list b with xs at its end, over the same slots; the slots past c are as they were
use Rattle.std.specs.Prelude.{◌≡◌, ℕ, List, ◌++◌, length, take, drop}
use Rattle.bounded.specs.declared.list.Bounded.{Bounded}

abbrev pub held : {T : Type 0} → Bounded T → List T
held b = take b.len b.slots.now

abbrev pub spare : {T : Type 0} → Bounded T → List T
spare b = drop b.len b.slots.now

abbrev pub room : {T : Type 0} → Bounded T → ℕ
room b = length b.slots.now

pub record Appended {T : Type 0} (b c : Bounded T) (xs : List T) : Type 0 where
  pub items : held c ≡ held b ++ xs
  pub rest : spare c ≡ drop (length xs) (spare b)
  pub size : room c ≡ room b
  pub lender : c.slots.ghost_name ≡ b.slots.ghost_name
