-- Class numbers are equal exactly where the labels have one meaning. Assumes nothing.
use Rattle.std.proofs.Common.{◌≡◌, ℕ, zero, suc, ◌+◌, ◌<◌, ◌≢◌, ◌⊎◌, List, [], ◌∷◌, map, length, get_or, set, Some, sym, refl, ap, ◌∙◌, subst, inl, inr, arith, get_or-set_other, get_or-set_same}
use lib.ListN.{length-map}
use Rattle.std.specs.List.{slice_get}
use Rattle.std.proofs.lemmas.Option.{slice_get_read}
use Rattle.std.proofs.lemmas.Bool.{cases_order, cases_eq}
use Rattle.kinds.specs.Classes.{Absent}
use Rattle.course.specs.declared.classes.Classes.{Classes}
use Rattle.course.specs.declared.course.Origin.{Origin}
use Rattle.course.specs.declared.course.Origin.TheVariants.{Blank, Source, Constant}
use Rattle.course.specs.Labels.{class_of}
use Rattle.laws.specs.Labelling.{label_of, Tells}
use Rattle.view.specs.Numbers.{Nowhere, Numbered, NumberedBelow, AllNumbered}

pub nth_within : {X : Type 0} (xs : List X) (k : ℕ) (x : X) → slice_get xs k ≡ Some x → k < length xs
nth_within [] k x e = absurd (let z : ◌≡◌ {A = ℕ} 0 1 = cc in omega arith)
nth_within (y ∷ ys) zero x e = omega arith
nth_within (y ∷ ys) (suc k) x e = let h = nth_within ys k x e in omega arith

pub nth_map : {X Y : Type 0} (f : X → Y) (xs : List X) (k : ℕ) (x : X) → slice_get xs k ≡ Some x → slice_get (map f xs) k ≡ Some (f x)
nth_map f [] k x e = absurd (let z : ◌≡◌ {A = ℕ} 0 1 = cc in omega arith)
nth_map f (y ∷ ys) zero x e = let h : y ≡ x = cc in ap (λ z. Some (f z)) h
nth_map f (y ∷ ys) (suc k) x e = nth_map f ys k x e

some_back : {X : Type 0} {x y : X} → Some x ≡ Some y → x ≡ y
some_back e = cc

-- the lowest place is one place
lowest_one : {M : Type 0} (ms : List M) (m : M) (c d : ℕ) → slice_get ms c ≡ Some m → Absent ms m c → slice_get ms d ≡ Some m → Absent ms m d → c ≡ d
lowest_one ms m c d at_c low-c at-d low-d =
    elim (cases_order c d) [ inl e ↦ e | inr o ↦ elim o [ inl h ↦ absurd (low-d c h at_c) | inr h ↦ absurd (low-c d h at-d) ] ]

-- a label with the meaning m stands at a place of one of the tables
abbrev pub Somewhere : {M : Type 0} → List M → List M → M → Type 0
Somewhere ms ns m = ((k : ℕ) × (slice_get ms k ≡ Some m)) ⊎ ((k : ℕ) × (slice_get ns k ≡ Some m))

module _ {M : Type 0} (ms ns : List M) where
  not_nowhere : (m : M) → Somewhere ms ns m → Nowhere ms ns m → ⊥
  not_nowhere m (inl (k, e)) h = h.no_arrow k (nth_within ms k m e) e
  not_nowhere m (inr (k, e)) h = h.no_constant k (nth_within ns k m e) e

  pub one_number : (m : M) (c d : ℕ) → Somewhere ms ns m → Numbered ms ns m c → Numbered ms ns m d → c ≡ d
  one_number m c d s (inl a) (inl b) = lowest_one ms m c d a.here a.lowest b.here b.lowest
  one_number m c d s (inl a) (inr (inl b)) = absurd (b.no_arrow c (nth_within ms c m a.here) a.here)
  one_number m c d s (inl a) (inr (inr b)) = absurd (not_nowhere m s b)
  one_number m c d s (inr (inl a)) (inl b) = absurd (a.no_arrow d (nth_within ms d m b.here) b.here)
  one_number m c d s (inr (inl a)) (inr (inl b)) =
      let e = lowest_one ns m a.constant b.constant a.here a.lowest b.here b.lowest in
      omega (arith, a.is, b.is)
  one_number m c d s (inr (inl a)) (inr (inr b)) = absurd (not_nowhere m s b)
  one_number m c d s (inr (inr a)) q = absurd (not_nowhere m s a)

  pub one_meaning : (m n : M) (c : ℕ) → Somewhere ms ns m → Somewhere ms ns n → Numbered ms ns m c → Numbered ms ns n c → m ≡ n
  one_meaning m n c s t (inl a) (inl b) = some_back (sym a.here ∙ b.here)
  one_meaning m n c s t (inl a) (inr (inl b)) = absurd (omega (arith, a.few, b.is))
  one_meaning m n c s t (inl a) (inr (inr b)) = absurd (not_nowhere n t b)
  one_meaning m n c s t (inr (inl a)) (inl b) = absurd (omega (arith, b.few, a.is))
  one_meaning m n c s t (inr (inl a)) (inr (inl b)) =
      let e : b.constant ≡ a.constant = omega (arith, a.is, b.is) in
      some_back (sym a.here ∙ subst (λ (k : ℕ). slice_get ns k ≡ Some n) e b.here)
  one_meaning m n c s t (inr (inl a)) (inr (inr b)) = absurd (not_nowhere n t b)
  one_meaning m n c s t (inr (inr a)) q = absurd (not_nowhere m s a)

-- a place that has a meaning is below the length of the labels
pub place_within : {L M : Type 0} (meaning : L → M) (ls : List L) (k : ℕ) (m : M) → slice_get (map meaning ls) k ≡ Some m → k < length ls
place_within meaning ls k m e = let h = nth_within (map meaning ls) k m e in omega (arith, length-map ls meaning)

-- numbers of all labels tell them apart
module _ {L M : Type 0} (meaning : L → M) (labels constants : List L) (cs : Classes) where
  pub tells : (s n : ℕ) → AllNumbered meaning labels constants labels cs.arrows → AllNumbered meaning labels constants constants cs.constants → Tells s n meaning labels constants cs
  tells s n arrows fixed a b x y p q at_a at_b =
      let ms = map meaning labels in
      let ns = map meaning constants in (
        λ e. one_meaning ms ns (meaning x) (meaning y) (class_of cs b) (somewhere a x at_a) (somewhere b y at_b)
            (subst (λ (c : ℕ). Numbered ms ns (meaning x) c) e (numbered a x at_a)) (numbered b y at_b),
        λ e. one_number ms ns (meaning y) (class_of cs a) (class_of cs b) (somewhere b y at_b)
            (subst (λ (m : M). Numbered ms ns m (class_of cs a)) e (numbered a x at_a)) (numbered b y at_b),
      )
    where
      somewhere : (o : Origin) (z : L) → label_of labels constants o ≡ Some z → Somewhere (map meaning labels) (map meaning constants) (meaning z)
      somewhere Blank z e = absurd (let w : ◌≡◌ {A = ℕ} 0 1 = cc in omega arith)
      somewhere (Source k) z e = inl (k, nth_map meaning labels k z e)
      somewhere (Constant k) z e = inr (k, nth_map meaning constants k z e)

      numbered : (o : Origin) (z : L) → label_of labels constants o ≡ Some z → Numbered (map meaning labels) (map meaning constants) (meaning z) (class_of cs o)
      numbered Blank z e = absurd (let w : ◌≡◌ {A = ℕ} 0 1 = cc in omega arith)
      numbered (Source k) z e = arrows k z (nth_within labels k z e) e
      numbered (Constant k) z e = fixed k z (nth_within constants k z e) e
