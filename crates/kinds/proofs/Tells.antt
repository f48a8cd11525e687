-- Two tests that decide one fact have one answer. Assumes nothing.
use Rattle.std.proofs.Common.{◌≡◌, Bool, true, false, ◌↔◌, Decides, sym, refl}

pub decided : (a b : Bool) {P : Type 0} → (a ≡ true) ↔ P → Decides b P → b ≡ a
decided true true p q = refl
decided true false p q = q.1 (p.0 refl)
decided false true p q = sym (p.1 (q.0 refl))
decided false false p q = refl
