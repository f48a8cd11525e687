-- What is shown by class numbers is what the labels themselves show. Assumes nothing.
use Rattle.std.proofs.Common.{◌≡◌, ℕ, zero, suc, ◌<◌, ◌≤◌, Bool, true, false, cond, ◌⊎◌, ◌↔◌, List, [], ◌∷◌, length, take, Err, Option, Result, refl, ◌∙◌, subst, inl, inr, arith, length-take-le}
use Rattle.std.specs.List.{slice_get}
use Rattle.std.proofs.lemmas.Bool.{and_from, and_left, and_right, le-leb, lt-leb}
use Rattle.expression.specs.Forms.{Tree}
use Rattle.expression.specs.Rules.{keeps}
use Rattle.course.specs.declared.classes.Classes.{Classes}
use Rattle.course.specs.declared.course.Origin.{Origin}
use Rattle.course.specs.declared.course.Origin.TheVariants.{Blank, Source, Constant}
use Rattle.course.specs.declared.source.Source.{Source as SourceOf}
use Rattle.course.specs.Course.{Run}
use Rattle.course.specs.Forward.{forward}
use Rattle.course.specs.Labels.{by_class}
use Rattle.course.specs.Sources.{Graph, graph_of}
use Rattle.laws.specs.Bounds.{Labelled, Sound}
use Rattle.laws.specs.Labelling.{label_of, by_label, Tells}
use Rattle.laws.proofs.Labelling.{classes_stand}
use Rattle.view.specs.declared.fault.ViewFault.{ViewFault}
use Rattle.view.specs.declared.fault.ViewFault.TheVariants.{ShortTable}
use Rattle.view.specs.View.{Picture, pictured, long, showing, Answered}

pub sound : (s : SourceOf) → Sound (graph_of s)
sound s = record { some = s.some; few_nodes = s.few_nodes; few_arrows = s.few_arrows; ends = s.ends }

nth_take : {X : Type 0} (n : ℕ) (xs : List X) (k : ℕ) → k < n → slice_get (take n xs) k ≡ slice_get xs k
nth_take zero xs k h = absurd (omega arith)
nth_take (suc n) [] k h = refl
nth_take (suc n) (x ∷ xs) zero h = refl
nth_take (suc n) (x ∷ xs) (suc k) h = nth_take n xs k (omega arith)

-- numbers for the fronts of two tables tell apart what stands there
module _ {L M : Type 0} (meaning : L → M) (labels constants : List L) (s n : ℕ) (enough : s ≤ length labels) (fixed : n ≤ length constants) where
  in_front : (o : Origin) → Labelled s n o → label_of (take s labels) (take n constants) o ≡ label_of labels constants o
  in_front Blank h = refl
  in_front (Source k) h = nth_take s labels k h
  in_front (Constant k) h = nth_take n constants k h

  pub tells_front : (cs : Classes) → Tells (length (take s labels)) (length (take n constants)) meaning (take s labels) (take n constants) cs →
      Tells s n meaning labels constants cs
  tells_front cs tells a b x y p q at_a at_b =
      tells a b x y (within a p) (within b q) (in_front a p ∙ at_a) (in_front b q ∙ at_b)
    where
      within : (o : Origin) → Labelled s n o → Labelled (length (take s labels)) (length (take n constants)) o
      within Blank h = h
      within (Source k) h = omega (arith, length-take-le s labels enough, h)
      within (Constant k) h = omega (arith, length-take-le n constants fixed, h)

pub short_told : (t : Bool) (told : Result Picture ViewFault) (before : Option Picture) → t ≡ false →
    Answered (cond t told (Err ShortTable)) before before (Err ShortTable)
short_told true told before e = absurd (let z : ◌≡◌ {A = ℕ} 0 1 = cc e in omega arith)
short_told false told before e = (refl, refl)

long_told : (t : Bool) (told : Result Picture ViewFault) (before after : Option Picture) (r : Result (Unit {0}) ViewFault) → t ≡ true →
    Answered told before after r → Answered (cond t told (Err ShortTable)) before after r
long_told true told before after r e h = h
long_told false told before after r e h = absurd (let z : ◌≡◌ {A = ℕ} 0 1 = cc e in omega arith)

module _ {L M : Type 0} (alike : L → L → Bool) (meaning : L → M) (exact : (x y : L) → (alike x y ≡ true) ↔ (meaning x ≡ meaning y)) where
  pub shown_by_classes : (source : SourceOf) (n s m : ℕ) (e : Tree) (labels constants : List L) (cs : Classes) (before after : Option Picture) (r : Result (Unit {0}) ViewFault) →
      keeps n e ≡ true → s ≡ length (graph_of source).arrows → m ≡ n → s ≤ length labels → m ≤ length constants →
      Tells (length (take s labels)) (length (take m constants)) meaning (take s labels) (take m constants) cs →
      Answered (pictured (forward (by_class cs) (graph_of source) e)) before after r →
      Answered (showing alike (graph_of source) n e labels constants) before after r
  shown_by_classes source n s m e labels constants cs before after r rules is-s is_m enough fixed tells h =
      let arrows = (graph_of source).arrows in
      let few : length arrows ≤ length labels = omega arith in
      let most : n ≤ length constants = omega arith in
      long_told (long (graph_of source) n labels constants) (pictured (forward (by_label alike labels constants) (graph_of source) e)) before after r
      (and_from _ _ (le-leb (length arrows) (length labels) few) (le-leb n (length constants) most))
      (subst (λ (run : Run ℕ). Answered (pictured run) before after r)
      (classes_stand alike meaning exact labels constants cs (graph_of source) n e (sound source) rules
      (record { enough_labels = few; enough_constants = most })
      (subst (λ (k : ℕ). Tells k n meaning labels constants cs) is-s
      (subst (λ (k : ℕ). Tells s k meaning labels constants cs) is_m
      (tells_front meaning labels constants s m enough fixed cs tells)))) h)

-- a table is too short
pub too_short : {L : Type 0} (g : Graph) (n s m : ℕ) (labels constants : List L) → s ≡ length g.arrows → m ≡ n →
    (length labels < s) ⊎ ((s ≤ length labels) × (length constants < m)) → long g n labels constants ≡ false
too_short g n s m labels constants is-s is_m (inl h) = and_left _ _ (lt-leb (length g.arrows) (length labels) (omega arith))
too_short g n s m labels constants is-s is_m (inr (p, h)) = and_right _ _ (lt-leb n (length constants) (omega arith))
