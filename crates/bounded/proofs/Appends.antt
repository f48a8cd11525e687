-- What appends come to where there is room. Assumes nothing.
use Rattle.std.proofs.Common.{◌≡◌, ℕ, ◌+◌, ◌<◌, ◌≤◌, Bool, cond, ltb, List, [], ◌∷◌, ◌++◌, length, drop, sym, refl, ap, ◌∙◌, append_assoc, arith, length-append, take-append-drop}
use Rattle.std.proofs.lemmas.List.{append-nil, drop-drop}
use Rattle.std.proofs.lemmas.Bool.{lt-ltb, cond-true}
use Rattle.bounded.specs.declared.list.Bounded.{Bounded}
use Rattle.bounded.specs.Lists.{held, spare, room, Appended}

-- where the list is shorter than its room, what an append says of either case is what it says of the first
pub with_room : {X : Type 0} (count room : ℕ) (more less : X) {said : Bool} {got : X} → said ≡ ltb count room → got ≡ cond said more less → count < room → got ≡ more
with_room count room more less {said} answer either lt = either ∙ cond-true said more less (answer ∙ lt-ltb count room lt)

-- nothing is appended to a list by leaving it
pub appended_none : {T : Type 0} (b : Bounded T) → Appended b b []
appended_none b = record { items = sym (append-nil (held b)); rest = refl; size = refl; lender = refl }

-- what one append promises, where the list is shorter than its room
pub appended_one : {T : Type 0} (b c : Bounded T) (x : T) {said : Bool} → said ≡ ltb (length (held b)) (room b) → held c ≡ cond said (held b ++ x ∷ []) (held b) → spare c ≡ cond said (drop 1 (spare b)) (spare b) → room c ≡ room b → c.slots.ghost_name ≡ b.slots.ghost_name → length (held b) < room b → Appended b c (x ∷ [])
appended_one b c x answer items rest size lender under =
    record {
      items = with_room (length (held b)) (room b) _ _ answer items under;
      rest = with_room (length (held b)) (room b) _ _ answer rest under;
      size = size;
      lender = lender;
    }

-- appends after appends
pub appended_then : {T : Type 0} {a b c : Bounded T} {xs ys : List T} → Appended a b xs → Appended b c ys → Appended a c (xs ++ ys)
appended_then {T} {a} {b} {c} {xs} {ys} p q =
    record {
      items = q.items ∙ ap (λ l. l ++ ys) p.items ∙ append_assoc (held a) xs ys;
      rest = q.rest ∙ ap (λ l. drop (length ys) l) p.rest ∙ drop-drop (length ys) (length xs) (spare a) ∙ sym (ap (λ (n : ℕ). drop n (spare a)) (length-append xs ys));
      size = q.size ∙ p.size;
      lender = q.lender ∙ p.lender;
    }

-- the list is longer by what was appended
pub appended_long : {T : Type 0} {a b : Bounded T} {xs : List T} → Appended a b xs → length (held b) ≡ length (held a) + length xs
appended_long {T} {a} {b} {xs} p = ap length p.items ∙ length-append (held a) xs

-- two appends
pub appended_two : {T : Type 0} (a b c : Bounded T) (x y : T) → (length (held a) < room a → Appended a b (x ∷ [])) → (length (held b) < room b → Appended b c (y ∷ [])) → length (held a) + 2 ≤ room a → Appended a c (x ∷ y ∷ [])
appended_two a b c x y one two fits =
    let first = one (omega arith) in
    appended_then first (two (omega (arith, appended_long first, first.size)))

-- the slots are the list and what lies past it
pub slots_are : {T : Type 0} (b : Bounded T) → b.slots.now ≡ held b ++ spare b
slots_are b = sym (take-append-drop b.len b.slots.now)
