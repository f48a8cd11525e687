use Rattle.std.proofs.Common.{◌≡◌, ℕ, ◌+◌, ◌/◌, ◌%◌, ◌<◌, ◌≤◌, ◌⊎◌, List, [], ◌∷◌, ◌++◌, length, sym, ap, ◌∙◌, subst, inl, inr, ⊎_elim, arith, length-append}
use Rattle.bounded.specs.declared.list.Bounded.{Bounded}
use Rattle.bounded.specs.Lists.{held, room, Appended}
use Rattle.bounded.proofs.Appends.{appended_none, appended_one, appended_then, appended_long}
use Rattle.kinds.specs.Digits.{radix_of, glyph_of, spelled}
use Rattle.kinds.specs.Spelled.{two_digits, spelled_more, spelled_one, fewer, shrinks}
use Rattle.kinds.proofs.digits.Base.+append.Goals as goal
use Rattle.kinds.proofs.digits.Base.+append.Goals.{then-width-gt1, else-width-gt1+else-radix-n}

pub append-requires : goal.append-requires
append-requires t c =
    let b = radix_of c.args.self in
    let radix : c.radix-radix.result ≡ b = c.radix-radix.ensures in
    let w = c.args.width in
    let n = c.args.n in
    let two = two_digits c.args.self in
    let more : (1 < w) ⊎ (b ≤ n) = ⊎_elim (λ wide. inl wide) (λ over. inr (subst (λ (k : ℕ). k ≤ n) radix over.1)) c.then-width-gt1.either in
    let whole = spelled_more b w n two more c.requires.some in
    let long : length (spelled b w n) ≡ length (spelled b c.max.result (n / b)) + 1 = fewer b w n c.max.result c.max.ensures whole in
    let less : c.max.result + n / b < w + n = shrinks b w n c.max.result two c.requires.some c.max.ensures more in
    rw c.radix-radix.ensures (omega (arith, less, c.decreases), (omega arith, omega (arith, long, c.requires.room)))

-- from a list that has the front, the append of the last digit makes the whole
last_one : (b w n : ℕ) (old mid new : Bounded ℕ) (front : List ℕ) (g : ℕ) → g ≡ glyph_of (n % b) → spelled b w n ≡ front ++ (glyph_of (n % b) ∷ []) → length (held old) + length (spelled b w n) ≤ room old → Appended old mid front → (length (held mid) < room mid → Appended mid new (g ∷ [])) → Appended old new (spelled b w n)
last_one b w n old mid new front g is whole fits so_far one =
    let long : length (spelled b w n) ≡ length front + 1 = ap length whole ∙ length-append front (glyph_of (n % b) ∷ []) in
    let under : length (held mid) < room mid = omega (arith, so_far.size, appended_long so_far) in
    let all : front ++ (g ∷ []) ≡ spelled b w n = ap (λ (x : ℕ). front ++ (x ∷ [])) is ∙ sym whole in
    subst (λ (l : List ℕ). Appended old new l) all (appended_then so_far (one under))

-- the list before the last digit has the digits of the rest, if there are more
pub returns : goal.returns
returns t c =
    let b = radix_of c.args.self in
    let radix : c.radix-radix.result ≡ b = c.radix-radix.ensures in
    let w = c.args.width in
    let n = c.args.n in
    let two = two_digits c.args.self in
    let said = c.append-2.ensures in
    let old = c.args.list.now in
    let mid = c.if-width-gt1.list in
    let new = c.append-2.new.self in
    let g = c.glyph.result in
    let is : g ≡ glyph_of (n % b) = c.glyph.ensures ∙ ap (λ (k : ℕ). glyph_of (n % k)) radix in
    let one : length (held mid) < room mid → Appended mid new (g ∷ []) = appended_one mid new g said.value said.items said.rest said.size said.lender in
    elim c.if-width-gt1.branch [
      | then-width-gt1 v ↦
          let more : (1 < w) ⊎ (b ≤ n) = ⊎_elim (λ wide. inl wide) (λ over. inr (subst (λ (k : ℕ). k ≤ n) radix over.1)) v.then-width-gt1.either in
          let front = spelled b v.max.result (n / c.radix-radix.result) in
          let whole : spelled b w n ≡ front ++ (glyph_of (n % b) ∷ []) = rw (radix, v.max.ensures) (spelled_more b w n two more c.requires.some) in
          let so_far : Appended old mid front = subst (λ (l : Bounded ℕ). Appended old l front) (sym v.list-is) v.append.ensures in
          last_one b w n old mid new front g is whole c.requires.room so_far one
      | else-width-gt1+else-radix-n v ↦
          let so_far : Appended old mid [] = subst (λ (l : Bounded ℕ). Appended old l []) (sym v.list-is) (appended_none old) in
          let whole = spelled_one b w n two (omega (arith, v.if-width-gt1)) c.requires.some (omega (arith, v.if-radix-n)) in
          last_one b w n old mid new [] g is whole c.requires.room so_far one
    ]
