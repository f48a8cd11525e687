-- Arrows as pairs, one more at a time: whether their ends are nodes, and the lowest whose ends are not. Assumes nothing.
use Rattle.std.proofs.Common.{◌≡◌, ℕ, zero, suc, ◌+◌, ◌<◌, ◌≤◌, Bool, true, false, cond, not, ◌&&◌, ltb, leb, List, [], ◌∷◌, length, get_or, Some, None, Option, sym, refl, ap, ◌∙◌, add-one, arith}
use Rattle.std.proofs.lemmas.Bool.{and_parts, ltb-true, leb-true}
use Rattle.std.specs.List.{position, position_from}
use Rattle.std.proofs.lemmas.Iterator.Adapters.{position_from-zero}
use Rattle.course.specs.declared.source.SourceFault.{SourceFault}
use Rattle.course.specs.declared.source.SourceFault.TheVariants.{Count, End}
use Rattle.course.specs.Ends.{joins, inside}
use Rattle.course.specs.Sources.{outside, sized, fault}

pub joined_ends : (n : ℕ) (a : ℕ × ℕ) → joins n a ≡ true → (a.0 < n) × (a.1 < n)
joined_ends n a e = let k = and_parts (ltb a.0 n) (ltb a.1 n) e in (ltb-true a.0 n k.0, ltb-true a.1 n k.1)

pub inside_at : (n : ℕ) (xs : List (ℕ × ℕ)) (k : ℕ) → k < length xs → inside n xs ≡ true → joins n (get_or xs k (0, 0)) ≡ true
inside_at n [] k l h = absurd (omega arith)
inside_at n (x ∷ xs) zero l h = (and_parts (joins n x) (inside n xs) h).0
inside_at n (x ∷ xs) (suc k) l h = inside_at n xs k (omega arith) (and_parts (joins n x) (inside n xs) h).1

-- the lowest arrow with an end that is no node, by its position
abbrev pub end_of : Option ℕ → Option SourceFault
end_of None = None
end_of (Some k) = Some (End k)

end_here : (i : ℕ) (b : Bool) (a : Option SourceFault) (o : Option ℕ) → a ≡ end_of o → cond b a (Some (End i)) ≡ end_of (cond (not b) (Some i) o)
end_here i true a o e = e
end_here i false a o e = refl

outside_from : (n i : ℕ) (xs : List (ℕ × ℕ)) → outside n i xs ≡ end_of (position_from (λ a. not (joins n a)) i xs)
outside_from n i [] = refl
outside_from n i (x ∷ xs) = end_here i (joins n x) (outside n (suc i) xs) (position_from (λ a. not (joins n a)) (i + 1) xs) (rw add-one (outside_from n (suc i) xs))

pub outside_position : (n : ℕ) (xs : List (ℕ × ℕ)) → outside n 0 xs ≡ end_of (position (λ a. not (joins n a)) xs)
outside_position n xs = outside_from n 0 xs ∙ ap end_of (sym (position_from-zero (λ (a : ℕ × ℕ). not (joins n a)) xs))

-- where no end is outside, all are inside
none_here : (i : ℕ) (b : Bool) (a : Option SourceFault) → cond b a (Some (End i)) ≡ None → (b ≡ true) × (a ≡ None)
none_here i true a e = (refl, e)
none_here i false a e = absurd (let z : ◌≡◌ {A = ℕ} 0 1 = cc in omega arith)

pub inside_all : (n i : ℕ) (xs : List (ℕ × ℕ)) → outside n i xs ≡ None → inside n xs ≡ true
inside_all n i [] e = refl
inside_all n i (x ∷ xs) e =
    let k = none_here i (joins n x) (outside n (suc i) xs) e in
    rw k.0 (inside_all n (suc i) xs k.1)

-- where the counts are good
pub fault_ends : (n : ℕ) (xs : List (ℕ × ℕ)) → sized n (length xs) ≡ true → fault n xs ≡ outside n 0 xs
fault_ends n xs e = ap (λ b. cond b (outside n 0 xs) (Some Count)) e

pub sizes : (n l : ℕ) → sized n l ≡ true → (1 ≤ n) × (n ≤ 128) × (l ≤ 256)
sizes n l e =
    let k = and_parts (leb 1 n && leb n 128) (leb l 256) e in
    let m = and_parts (leb 1 n) (leb n 128) k.0 in
    (leb-true 1 n m.0, leb-true n 128 m.1, leb-true l 256 k.1)
