use Rattle.std.proofs.Common.{◌≡◌, ℕ, zero, suc, ◌<◌, Bool, false, cond, List, [], ◌∷◌, length, get_or, sym, refl, ap, ◌∙◌, arith, rules}
use Rattle.std.proofs.lemmas.List.{ext_get_or}
use Rattle.course.specs.Forward.{merged}
use Rattle.course.proofs.in_map.merge.Goals as goal

merged_at : (ms : List Bool) (a b : List ℕ) (k : ℕ) → k < length ms → k < length a → k < length b → get_or (merged ms a b) k 0 ≡ cond (get_or ms k false) (get_or a k 0) (get_or b k 0)
unfolding merged
merged_at [] a b k h i j = absurd (omega arith)
merged_at (t ∷ ms) [] b k h i j = absurd (omega arith)
merged_at (t ∷ ms) (x ∷ a) [] k h i j = absurd (omega arith)
merged_at (t ∷ ms) (x ∷ a) (y ∷ b) zero h i j = refl
merged_at (t ∷ ms) (x ∷ a) (y ∷ b) (suc k) h i j = merged_at ms a b k (omega arith) (omega arith) (omega arith)

merged_long : (ms : List Bool) (a b : List ℕ) → length a ≡ length ms → length b ≡ length ms → length (merged ms a b) ≡ length ms
unfolding merged
merged_long [] a b i j = refl
merged_long (t ∷ ms) [] b i j = absurd (omega arith)
merged_long (t ∷ ms) (x ∷ a) [] i j = absurd (omega arith)
merged_long (t ∷ ms) (x ∷ a) (y ∷ b) i j = ap suc (merged_long ms a b (omega arith) (omega arith))

pub returns : goal.returns
returns c =
    let ms = c.args.set in
    let a = c.args.left in
    let b = c.args.right in
    let l0 : length ms ≡ 8 = search rules in
    let l1 : length a ≡ 8 = search rules in
    let l2 : length b ≡ 8 = search rules in
    ext_get_or 0 c.loop-marker.into (merged ms a b) (c.loop-marker.invariant.0 ∙ sym (merged_long ms a b (omega arith) (omega arith) ∙ l0))
    (λ k h. c.loop-marker.invariant.1 k (omega (arith, c.loop-marker.invariant.0, h)) ∙ sym (merged_at ms a b k (omega (arith, c.loop-marker.invariant.0, h)) (omega (arith, c.loop-marker.invariant.0, h)) (omega (arith, c.loop-marker.invariant.0, h))))
