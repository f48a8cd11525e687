-- Runs over class numbers and runs that ask the labels themselves. Assumes nothing.
use Rattle.std.proofs.Common.{◌≡◌, ℕ, zero, suc, ◌<◌, Bool, true, false, cond, eqb, ◌↔◌, List, [], ◌∷◌, length, Some, Option, sym, refl, ap, ◌∙◌, arith}
use Rattle.std.specs.List.{slice_get}
use Rattle.std.proofs.lemmas.Bool.{eqb-true, eqb-false, both_ways}
use Rattle.course.specs.declared.classes.Classes.{Classes}
use Rattle.course.specs.declared.course.Comparison.{Comparison}
use Rattle.course.specs.declared.course.Origin.{Origin}
use Rattle.course.specs.declared.course.Origin.TheVariants.{Blank, Source, Constant}
use Rattle.course.specs.declared.course.Outcome.{Outcome}
use Rattle.course.specs.declared.course.Outcome.TheVariants.{Same, Other}
use Rattle.course.specs.Course.{Course}
use Rattle.course.specs.Labels.{class_of, by_class}
use Rattle.course.specs.Sources.{Graph}
use Rattle.laws.specs.Every.{Every}
use Rattle.laws.specs.Bounds.{Labelled, ComparisonIn}
use Rattle.laws.specs.Recorded.{Holds}
use Rattle.laws.specs.Labelling.{label_of, same_labels, by_label, Tells, Long, Agrees, ClassesStand, RecordedMeanings, SameCourseMeanings}
use Rattle.laws.proofs.Bounded.{run_alike, bounds}
use Rattle.laws.proofs.Recording.{recorded, same_course}

-- within a table there is an entry
pub record Has {L : Type 0} (o : Option L) : Type 0 where
  pub label : L
  pub is : o ≡ Some label

nth_has : {L : Type 0} (xs : List L) (i : ℕ) → i < length xs → Has (slice_get xs i)
nth_has [] i h = absurd (omega arith)
nth_has (x ∷ xs) zero h = record { label = x; is = refl }
nth_has (x ∷ xs) (suc i) h = nth_has xs i (omega arith)

module _ {L M : Type 0} (alike : L → L → Bool) (meaning : L → M) (exact : (x y : L) → (alike x y ≡ true) ↔ (meaning x ≡ meaning y)) where
  module _ (labels constants : List L) (g : Graph) (n : ℕ) (long : Long g n labels constants) where
    has : (o : Origin) → Labelled (length g.arrows) n o → Has (label_of labels constants o)
    has Blank h = absurd h
    has (Source k) h = nth_has labels k (omega (arith, long.enough_labels))
    has (Constant k) h = nth_has constants k (omega (arith, long.enough_constants))

    -- two labels that there are compare by whether they are alike
    by_label_lem : (a b : Origin) (x y : L) → label_of labels constants a ≡ Some x → label_of labels constants b ≡ Some y →
        by_label alike labels constants a b ≡ cond (alike x y) Same Other
    by_label_lem a b x y p q = ap (λ z. same_labels alike z (label_of labels constants b)) p ∙ ap (λ z. same_labels alike (Some x) z) q

    same_answers : (t u : Bool) → (t ≡ true → u ≡ true) → (u ≡ true → t ≡ true) → cond t Same Other ≡ cond u Same Other
    same_answers true true f h = refl
    same_answers true false f h = absurd (both_ways false refl (f refl))
    same_answers false true f h = absurd (both_ways false refl (h refl))
    same_answers false false f h = refl

    agree : (cs : Classes) → Tells (length g.arrows) n meaning labels constants cs → (a b : Origin) →
        Labelled (length g.arrows) n a → Labelled (length g.arrows) n b → by_class cs a b ≡ by_label alike labels constants a b
    agree cs tells a b p q =
        let x = has a p in
        let y = has b q in
        let t = tells a b x.label y.label p q x.is y.is in
        same_answers (eqb (class_of cs a) (class_of cs b)) (alike x.label y.label)
        (λ e. (exact x.label y.label).1 (t.0 (eqb-true (class_of cs a) (class_of cs b) e)))
        (λ e. equal (eqb (class_of cs a) (class_of cs b)) refl (t.1 ((exact x.label y.label).0 e)))
        ∙ sym (by_label_lem a b x.label y.label x.is y.is)
      where
        equal : (u : Bool) → eqb (class_of cs a) (class_of cs b) ≡ u → class_of cs a ≡ class_of cs b → u ≡ true
        equal true h e = refl
        equal false h e = absurd (eqb-false (class_of cs a) (class_of cs b) h e)

    outcome_same : (t : Bool) → cond t Same Other ≡ Same → t ≡ true
    outcome_same true h = refl
    outcome_same false h = absurd (let z : ◌≡◌ {A = ℕ} 0 1 = cc in omega arith)

    -- a comparison that holds for the labels agrees with them, and the other way round
    holds_agrees : (q : Comparison) → Labelled (length g.arrows) n q.left → Labelled (length g.arrows) n q.right →
        Holds (by_label alike labels constants) q → Agrees meaning labels constants q
    holds_agrees q p r h =
        let x = has q.left p in
        let y = has q.right r in
        let e : q.outcome ≡ cond (alike x.label y.label) Same Other = h ∙ by_label_lem q.left q.right x.label y.label x.is y.is in
        record {
          left = x.label;
          right = y.label;
          is_left = x.is;
          is_right = y.is;
          outcome = (
            λ z. (exact x.label y.label).0 (outcome_same (alike x.label y.label) (sym e ∙ z)),
            λ z. e ∙ ap (λ t. cond t Same Other) ((exact x.label y.label).1 z),
          );
        }

    agrees_holds : (q : Comparison) → Agrees meaning labels constants q → Holds (by_label alike labels constants) q
    agrees_holds q h = on (alike h.left h.right) q.outcome refl refl ∙ sym (by_label_lem q.left q.right h.left h.right h.is_left h.is_right)
      where
        on : (t : Bool) (o : Outcome) → alike h.left h.right ≡ t → q.outcome ≡ o → q.outcome ≡ cond (alike h.left h.right) Same Other
        on true o e z = h.outcome.1 ((exact h.left h.right).0 e) ∙ sym (ap (λ t. cond t Same Other) e)
        on false Same e z = absurd (both_ways (alike h.left h.right) e ((exact h.left h.right).1 (h.outcome.0 z)))
        on false Other e z = z ∙ sym (ap (λ t. cond t Same Other) e)

    all_agree : (c : Course) (qs : List Comparison) → Every (ComparisonIn (length g.arrows) n c) qs → Every (Holds (by_label alike labels constants)) qs →
        Every (Agrees meaning labels constants) qs
    all_agree c [] p h = tt
    all_agree c (q ∷ qs) p h = (holds_agrees q p.0.left p.0.right h.0, all_agree c qs p.1 h.1)

    all_hold : (qs : List Comparison) → Every (Agrees meaning labels constants) qs → Every (Holds (by_label alike labels constants)) qs
    all_hold [] h = tt
    all_hold (q ∷ qs) h = (agrees_holds q h.0, all_hold qs h.1)

  pub classes_stand : ClassesStand alike meaning
  classes_stand labels constants cs g n e sound rules long tells =
      run_alike (by_class cs) (by_label alike labels constants) g n e sound rules (agree labels constants g n long cs tells)

  pub recorded_meanings : RecordedMeanings alike meaning
  recorded_meanings labels constants g n e sound rules long v c h =
      all_agree labels constants g n long c c.comparisons (bounds (by_label alike labels constants) g n e v c sound rules h).course.comparisons
      (recorded (by_label alike labels constants) g e v c h)

  pub same_course_meanings : SameCourseMeanings alike meaning
  same_course_meanings labels later constants g n e sound rules long long' v c h =
      let s = same_course (by_label alike labels constants) (by_label alike later constants) g e v c h in (
        λ q. recorded_meanings later constants g n e sound rules long' v c q,
        λ q. s.1 (all_hold later constants g n long' c.comparisons q),
      )
