-- Laws of digits: one digit more, how many there are, and back from digits to the number. Assumes nothing.
use Rattle.std.specs.Prelude.{◌≡◌, ℕ, zero, suc, ◌+◌, ◌-◌, ◌*◌, ◌/◌, ◌%◌, ◌^◌, ◌<◌, ◌≤◌, max, ◌⊎◌, List, [], ◌∷◌, ◌++◌, map, length, take, drop, replicate, slice_index, refl}
use Rattle.std.proofs.Common.{sym, ap, ap₂, ◌∙◌, append_assoc, inl, inr, zero-lt-suc, div-le_self, le-div_iff_mul-le, arith, length-append, take-append-drop}
use Rattle.std.proofs.Math.Nat.{zero-div, zero-mod, sub-zero, div-eq_of_lt, div-lt_self, pow-le-pow_left, pow-le-pow_right}
use Rattle.std.specs.Int.Digits.{digits_of, number_from_digits, number_from_digits_after, AllBelowBase}
use Rattle.std.proofs.lemmas.Int.Digits.{digits_of_step, length-digits_of_step, length-digits_of-le, number_digits_of, number_lt, number_after_append, number_after_ge, number_more, number_push, all_below_base_digits_of}
use Rattle.std.proofs.ByRecursion.{All-append, All-get_or, All-push}
use Rattle.std.proofs.lemmas.List.{replicate_more, append-nil, take_more, take-map, get_or-map, map-append, length-map, length-replicate}
use Rattle.std.proofs.lemmas.Bool.Decides.{nat_tests}
use Rattle.kinds.specs.declared.digits.Base.{Base}
use Rattle.kinds.specs.declared.digits.Base.TheVariants.{Ten, Sixteen}
use Rattle.kinds.specs.Digits.{radix_of, glyph_of, padded, spelled, Spells}

-- a base has at least two digits
pub two_digits : (base : Base) → 2 ≤ radix_of base
two_digits Ten = omega arith
two_digits Sixteen = omega arith

-- ---- one digit more

none_step : (w : ℕ) → (replicate {A = ℕ} (w - 0) 0 ++ []) ++ (0 ∷ []) ≡ replicate ((w + 1) - 0) 0 ++ []
none_step w = simp (sub-zero, append-nil) (replicate_more w 0)

padded_step : (b w n : ℕ) → 2 ≤ b → padded b (w + 1) n ≡ padded b w (n / b) ++ (n % b ∷ [])
padded_step b w zero h =
    sym (ap (λ (x : ℕ). padded b w x ++ (0 % b ∷ [])) (zero-div b) ∙ ap (λ (x : ℕ). padded b w 0 ++ (x ∷ [])) (zero-mod b) ∙ none_step w)
padded_step b w (suc n) h =
    let m = suc n in
    let ds = digits_of b (m / b) in
    let step = digits_of_step b m h (zero-lt-suc n) in
    let long = length-digits_of_step b m h (zero-lt-suc n) in
    let k : (w + 1) - length (digits_of b m) ≡ w - length ds = omega arith in
    ap (λ (z : ℕ). replicate z 0 ++ digits_of b m) k
    ∙ ap (λ (l : List ℕ). replicate (w - length ds) 0 ++ l) step
    ∙ sym (append_assoc (replicate (w - length ds) 0) ds (m % b ∷ []))

spelled_step : (b w n : ℕ) → 2 ≤ b → spelled b (w + 1) n ≡ spelled b w (n / b) ++ (glyph_of (n % b) ∷ [])
spelled_step b w n h = ap (map glyph_of) (padded_step b w n h) ∙ map-append glyph_of (padded b w (n / b)) (n % b ∷ [])

-- a number above 0 has a digit, so a width of 0 pads it as a width of 1 does
no_width : (b n : ℕ) → 2 ≤ b → 0 < n → spelled b 0 n ≡ spelled b 1 n
no_width b n h some =
    let long = length-digits_of_step b n h some in
    let k : 0 - length (digits_of b n) ≡ 1 - length (digits_of b n) = omega arith in
    ap (λ (z : ℕ). map glyph_of (replicate z 0 ++ digits_of b n)) k

some_left : (b n : ℕ) → 2 ≤ b → b ≤ n → 0 < n / b
some_left b n h over =
    let pos : 0 < b = omega arith in
    (le-div_iff_mul-le {k = b} {x = 1} {y = n} pos).1 (let one : 1 * b ≡ b = omega arith in omega arith)

-- the last digit comes after the digits of the rest, if there are more
pub spelled_more : (b w n : ℕ) → 2 ≤ b → (1 < w) ⊎ (b ≤ n) → 1 ≤ w → spelled b w n ≡ spelled b (max (w - 1) 1) (n / b) ++ (glyph_of (n % b) ∷ [])
spelled_more b zero n h more some = absurd (omega arith)
spelled_more b (suc zero) n h (inl wide) some = absurd (omega arith)
spelled_more b (suc zero) n h (inr over) some =
    spelled_step b 0 n h ∙ ap (λ (l : List ℕ). l ++ (glyph_of (n % b) ∷ [])) (no_width b (n / b) h (some_left b n h over))
spelled_more b (suc (suc w)) n h more some =
    let is : suc (suc w) ≡ suc w + 1 = omega arith in
    let less : suc w ≡ max (suc (suc w) - 1) 1 = omega arith in
    ap (λ (k : ℕ). spelled b k n) is ∙ spelled_step b (suc w) n h ∙ ap (λ (k : ℕ). spelled b k (n / b) ++ (glyph_of (n % b) ∷ [])) less

pub fewer : (b w n v : ℕ) → v ≡ max (w - 1) 1 → spelled b w n ≡ spelled b (max (w - 1) 1) (n / b) ++ (glyph_of (n % b) ∷ []) → length (spelled b w n) ≡ length (spelled b v (n / b)) + 1
fewer b w n v is e =
    ap length e
    ∙ length-append (spelled b (max (w - 1) 1) (n / b)) (glyph_of (n % b) ∷ [])
    ∙ sym (ap (λ (k : ℕ). length (spelled b k (n / b)) + 1) is)

-- the rest has fewer digits to come
pub shrinks : (b w n v : ℕ) → 2 ≤ b → 1 ≤ w → v ≡ max (w - 1) 1 → (1 < w) ⊎ (b ≤ n) → v + n / b < w + n
shrinks b w n v h some is (inl wide) = omega (arith, div-le_self n b)
shrinks b w n v h some is (inr over) =
    let pos : 0 < n = omega arith in
    let two : 1 < b = omega arith in
    omega (arith, div-lt_self pos two)

-- and it stands alone otherwise
pub spelled_one : (b w n : ℕ) → 2 ≤ b → w ≤ 1 → 1 ≤ w → n < b → spelled b w n ≡ glyph_of (n % b) ∷ []
spelled_one b w n h narrow some under =
    let one : w ≡ 0 + 1 = omega arith in
    ap (λ (k : ℕ). spelled b k n) one ∙ spelled_step b 0 n h ∙ ap (λ (x : ℕ). spelled b 0 x ++ (glyph_of (n % b) ∷ [])) (div-eq_of_lt under)

-- ---- how many digits

pub spelled_long : (b w n : ℕ) → 2 ≤ b → 1 ≤ w → n < b ^ w → length (spelled b w n) ≡ w
spelled_long b w n h some under =
    let few = length-digits_of-le b w n h under in
    simp (length-map, length-append, length-replicate) (omega arith)

pub spelled_short : (b w n : ℕ) → 2 ≤ b → 1 ≤ w → n < b ^ w → length (spelled b 1 n) ≤ w
spelled_short b w n h some under =
    let few = length-digits_of-le b w n h under in
    simp (length-map, length-append, length-replicate) (omega arith)

-- at most eight digits come to a number that 32 bits hold
pub digits_fit : (b : ℕ) (ds : List ℕ) → b ≤ 16 → length ds ≤ 8 → AllBelowBase b ds → number_from_digits b ds < 2 ^ 32
digits_fit b ds base few under =
    let wide : b ^ length ds ≤ 16 ^ length ds = pow-le-pow_left base (length ds) in
    let top : 16 ^ length ds ≤ 16 ^ 8 = pow-le-pow_right (omega arith) few in
    let is : 16 ^ 8 ≡ 2 ^ 32 = refl in
    omega (arith, number_lt b ds under)

-- ---- back from digits

glyph_one : (c d : ℕ) → glyph_of c ≡ glyph_of d → c ≡ d
glyph_one c d e = grind (arith, nat_tests)

-- digits that look alike are one
pub same_digits : (cs ds : List ℕ) → map glyph_of cs ≡ map glyph_of ds → cs ≡ ds
same_digits [] [] e = refl
same_digits [] (d ∷ ds) e = absurd (omega (arith, ap length e))
same_digits (c ∷ cs) [] e = absurd (omega (arith, ap length e))
same_digits (c ∷ cs) (d ∷ ds) e =
    ap₂ (λ (x : ℕ) (l : List ℕ). x ∷ l) (glyph_one c d (ap (λ (l : List ℕ). slice_index l 0) e)) (same_digits cs ds (ap (drop 1) e))

zeros : (b k : ℕ) (ds : List ℕ) → number_from_digits b (replicate k 0 ++ ds) ≡ number_from_digits b ds
zeros b zero ds = refl
zeros b (suc k) ds = let z : 0 * b + 0 ≡ 0 = omega arith in ap (λ (n : ℕ). number_from_digits_after b n (replicate k 0 ++ ds)) z ∙ zeros b k ds

number_padded : (b w n : ℕ) → 2 ≤ b → number_from_digits b (padded b w n) ≡ n
number_padded b w n h = zeros b (w - length (digits_of b n)) (digits_of b n) ∙ number_digits_of b n h

under_zeros : (b k : ℕ) → 2 ≤ b → AllBelowBase b (replicate k 0)
under_zeros b zero h = tt
under_zeros b (suc k) h = (omega arith, under_zeros b k h)

-- a number is spelled by its digits
pub spells : (b w n : ℕ) → 2 ≤ b → Spells b (spelled b w n) n
spells b w n h =
    record {
      digits = padded b w n;
      below = All-append (λ d. d < b) (replicate (w - length (digits_of b n)) 0) (digits_of b n) (under_zeros b (w - length (digits_of b n)) h) (all_below_base_digits_of b n h);
      glyphs = refl;
      number = number_padded b w n h;
    }

-- and one text spells one number
pub spells_one : (b : ℕ) (bs : List ℕ) (m n : ℕ) → Spells b bs m → Spells b bs n → m ≡ n
spells_one b bs m n p q =
    sym p.number ∙ ap (number_from_digits b) (same_digits p.digits q.digits (p.glyphs ∙ sym q.glyphs)) ∙ q.number

pub same_from_spelled : (b w m n : ℕ) → 2 ≤ b → spelled b w m ≡ spelled b w n → m ≡ n
same_from_spelled b w m n h e =
    sym (number_padded b w m h) ∙ ap (number_from_digits b) (same_digits (padded b w m) (padded b w n) e) ∙ number_padded b w n h

-- ---- reading digits from the first on

-- the next digit of a text that spells a number, and how far the number so far comes with it
pub next_digit : (b : ℕ) (bs : List ℕ) (i so_far n : ℕ) → 0 < b → i < length bs → Spells b (take i bs) so_far → Spells b bs n → (d : ℕ) × (d < b) × (glyph_of d ≡ slice_index bs i) × (so_far * b + d ≤ n)
next_digit b bs i so_far n some lt front whole =
    let ds = whole.digits in
    let long : length ds ≡ length bs = sym (length-map ds glyph_of) ∙ ap length whole.glyphs in
    let inside : i < length ds = omega arith in
    let first : front.digits ≡ take i ds = same_digits front.digits (take i ds) (front.glyphs ∙ sym (ap (take i) whole.glyphs) ∙ take-map glyph_of i ds) in
    let is : number_from_digits b (take i ds) ≡ so_far = ap (number_from_digits b) (sym first) ∙ front.number in
    let more : number_from_digits b (take (i + 1) ds) ≡ so_far * b + slice_index ds i = number_more b ds i inside ∙ ap (λ (k : ℕ). k * b + slice_index ds i) is in
    let all : number_from_digits_after b (number_from_digits b (take (i + 1) ds)) (drop (i + 1) ds) ≡ n =
    sym (number_after_append b 0 (take (i + 1) ds) (drop (i + 1) ds)) ∙ ap (number_from_digits b) (take-append-drop (i + 1) ds) ∙ whole.number in (
      slice_index ds i,
      All-get_or (λ d. d < b) ds i 0 inside whole.below,
      sym (get_or-map glyph_of ds i 0 0 inside) ∙ ap (λ (l : List ℕ). slice_index l i) whole.glyphs,
      omega (arith, number_after_ge b (number_from_digits b (take (i + 1) ds)) (drop (i + 1) ds) some),
    )

-- one digit more is read
pub spells_more : (b : ℕ) (bs : List ℕ) (i so_far d : ℕ) → i < length bs → Spells b (take i bs) so_far → d < b → glyph_of d ≡ slice_index bs i → Spells b (take (i + 1) bs) (so_far * b + d)
spells_more b bs i so_far d lt front under is =
    record {
      digits = front.digits ++ d ∷ [];
      below = All-push (λ x. x < b) front.digits d front.below under;
      glyphs =
          map-append glyph_of front.digits (d ∷ [])
          ∙ ap (λ (l : List ℕ). l ++ glyph_of d ∷ []) front.glyphs
          ∙ ap (λ (x : ℕ). take i bs ++ x ∷ []) is
          ∙ sym (take_more bs i 0 lt);
      number = number_push b front.digits d ∙ ap (λ (k : ℕ). k * b + d) front.number;
    }
