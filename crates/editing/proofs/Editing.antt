-- Trial refuses exactly where no rival labelling serves. Assumes nothing.
use Rattle.std.proofs.Common.{◌≡◌, ℕ, suc, Bool, true, false, cond, not, ◌⊎◌, ◌↔◌, List, [], ◌∷◌, ◌++◌, length, Some, None, Ok, Err, Option, Result, sym, refl, ap, ◌∙◌, subst, inl, inr, append_assoc, append-nil}
use Rattle.std.specs.List.{slice_get}
use Rattle.std.specs.Option.{option_map}
use Rattle.std.proofs.lemmas.Iterator.Adapters.{option_map_id}
use Rattle.std.proofs.lemmas.Bool.{eqb-true, eq-eqb, and_parts, and_cases, not-true, not-false, both_ways}
use Rattle.course.specs.declared.course.Origin.{Origin}
use Rattle.course.specs.declared.course.Origin.TheVariants.{Blank, Source, Constant}
use Rattle.course.specs.declared.course.Outcome.{Outcome}
use Rattle.course.specs.declared.course.Outcome.TheVariants.{Same, Other}
use Rattle.course.specs.declared.course.Comparison.{Comparison}
use Rattle.course.specs.Course.{Course, Run, done, full}
use Rattle.course.specs.Labels.{Compare}
use Rattle.walks.specs.Reach.{In}
use Rattle.course.specs.Forward.{forward}
use Rattle.laws.specs.Every.{Every}
use Rattle.laws.specs.Labelling.{same_labels}
use Rattle.laws.specs.Recorded.{Holds}
use Rattle.laws.proofs.Everies.{every_to}
use Rattle.laws.proofs.Recording.{recorded, same_course}
use Rattle.editing.specs.declared.refusal.Refusal.{Refusal}
use Rattle.editing.specs.declared.refusal.Refusal.TheVariants.{ConstantRow, Clashes, Turns, FullHistory}
use Rattle.editing.specs.declared.request.Edit.{Edit}
use Rattle.editing.specs.Drafts.{Labelling, label_in, compare_by, is_source, is_constant, same_arrow, same_outcome, turns, first, asked_or, put, changes, crowds, clash_of, turn_of, refuse_where, otherwise, clash_for, clashing, verdict}
use Rattle.editing.specs.Model.{Opening, shows}
use Rattle.editing.specs.Law.{Exact, meant, course_of, Rival, Serves, NoneServes, unservable}
use Rattle.editing.proofs.Relabelling.{cond_none, cond_some, in_either, in_left, in_right, relabelled, relabel_length}

-- what is known of a draft under a labelling: each edited row has a label, and another one is asked
pub record Draft {L V : Type 0} (meaning : L → V) (ls : Labelling L) (es : List (Edit L)) : Type 0 where
  pub named : (e : Edit L) → In e es → (l : L) × (label_in ls e.origin ≡ Some l)
  pub differs : (e : Edit L) → In e es → meant meaning (label_in ls e.origin) ≡ Some (meaning e.asked) → ⊥

-- whether a verdict is a refusal as 31, 32 or 33
abbrev pub refused : Result ℕ Refusal → Bool
refused (Ok n) = false
refused (Err e) = unservable e

outcome_same : (x y : Outcome) → same_outcome x y ≡ true → y ≡ x
outcome_same Same Same e = refl
outcome_same Same Other e = cc
outcome_same Other Same e = cc
outcome_same Other Other e = refl

outcome_self : (x : Outcome) → same_outcome x x ≡ true
outcome_self Same = refl
outcome_self Other = refl

pub source_is : (k : ℕ) (o : Origin) → is_source k o ≡ true → o ≡ Source k
source_is k Blank e = cc
source_is k (Source j) e = ap Source (sym (eqb-true k j e))
source_is k (Constant c) e = cc

is_source_lem : (k : ℕ) (o : Origin) → o ≡ Source k → is_source k o ≡ true
is_source_lem k o e = ap (is_source k) e ∙ eq-eqb k k refl

-- the lowest edit that passes
module _ {L : Type 0} where
  first_none : (p : Edit L → Bool) (es : List (Edit L)) (e : Edit L) → In e es → first p es ≡ None → p e ≡ false
  first_none p [] e i h = absurd i
  first_none p (y ∷ xs) e (inl q) h = ap p q ∙ (cond_none (p y) y (first p xs) h).0
  first_none p (y ∷ xs) e (inr i) h = first_none p xs e i (cond_none (p y) y (first p xs) h).1

  pub first_some : (p : Edit L → Bool) (es : List (Edit L)) (e : Edit L) → first p es ≡ Some e → In e es × (p e ≡ true)
  first_some p [] e h = cc
  first_some p (d ∷ es) e h = on (first_some p es e) (cond_some (p d) d e (first p es) h)
    where
      on : (first p es ≡ Some e → In e es × (p e ≡ true)) → ((p d ≡ true) × (d ≡ e)) ⊎ (first p es ≡ Some e) → In e (d ∷ es) × (p e ≡ true)
      on ih (inl k) = (inl (sym k.1), sym (ap p k.1) ∙ k.0)
      on ih (inr k) = let r = ih k in (inr r.0, r.1)

-- the comparisons that turn
pub turns_none : (cmp : Compare) (i : ℕ) (cs : List Comparison) → turns cmp i cs ≡ None → Every (Holds cmp) cs
turns_none cmp i [] h = tt
turns_none cmp i (c ∷ cs) h = on (turns_none cmp (suc i) cs) (same_outcome (cmp c.left c.right) c.outcome) refl h
  where
    on : (turns cmp (suc i) cs ≡ None → Every (Holds cmp) cs) → (b : Bool) → same_outcome (cmp c.left c.right) c.outcome ≡ b →
        cond b (turns cmp (suc i) cs) (Some (i, c)) ≡ None → Every (Holds cmp) (c ∷ cs)
    on ih true e k = (outcome_same (cmp c.left c.right) c.outcome e, ih k)
    on ih false e k = cc

turns_back : (cmp : Compare) (i : ℕ) (cs : List Comparison) → Every (Holds cmp) cs → turns cmp i cs ≡ None
turns_back cmp i [] h = refl
turns_back cmp i (c ∷ cs) h =
    ap (λ (x : Outcome). cond (same_outcome x c.outcome) (turns cmp (suc i) cs) (Some (i, c))) (sym h.0)
    ∙ ap (λ (b : Bool). cond b (turns cmp (suc i) cs) (Some (i, c))) (outcome_self c.outcome) ∙ turns_back cmp (suc i) cs h.1

module _ {L V : Type 0} (alike : L → L → Bool) (meaning : L → V) (exact : Exact alike meaning) where
  pub shows_meant : (a : Option L) (l : L) → meant meaning a ≡ Some (meaning l) → shows alike a l ≡ true
  shows_meant None l e = cc
  shows_meant (Some x) l e = (exact x l).1 (cc)

  -- whether labels are alike goes by their meanings
  alike_meant : (x x' y y' : L) → meaning x ≡ meaning x' → meaning y ≡ meaning y' → alike x y ≡ alike x' y'
  alike_meant x x' y y' p q = on (alike x y) (alike x' y') refl refl
    where
      on : (s t : Bool) → alike x y ≡ s → alike x' y' ≡ t → alike x y ≡ alike x' y'
      on true true e f = e ∙ sym f
      on false false e f = e ∙ sym f
      on true false e f = absurd (both_ways (alike x' y') f ((exact x' y').1 (sym p ∙ (exact x y).0 e ∙ q)))
      on false true e f = absurd (both_ways (alike x y) e ((exact x y).1 (p ∙ (exact x' y').0 f ∙ sym q)))

  compare_meant : (a a' b b' : Option L) → meant meaning a ≡ meant meaning a' → meant meaning b ≡ meant meaning b' → same_labels alike a b ≡ same_labels alike a' b'
  compare_meant None None None None p q = refl
  compare_meant None None None (Some y') p q = cc
  compare_meant None None (Some y) None p q = cc
  compare_meant None None (Some y) (Some y') p q = refl
  compare_meant None (Some x') b b' p q = cc
  compare_meant (Some x) None b b' p q = cc
  compare_meant (Some x) (Some x') None None p q = refl
  compare_meant (Some x) (Some x') None (Some y') p q = cc
  compare_meant (Some x) (Some x') (Some y) None p q = cc
  compare_meant (Some x) (Some x') (Some y) (Some y') p q = ap (λ (b : Bool). cond b Same Other) (alike_meant x x' y y' (cc) (cc))

  respects : (ls ls' : Labelling L) → ((o : Origin) → meant meaning (label_in ls o) ≡ meant meaning (label_in ls' o)) → (a b : Origin) → compare_by alike ls a b ≡ compare_by alike ls' a b
  respects ls ls' h a b = compare_meant (label_in ls a) (label_in ls' a) (label_in ls b) (label_in ls' b) (h a) (h b)

  -- a labelling that serves means what is asked
  module _ (ls ls' : Labelling L) (es : List (Edit L)) (draft : Draft meaning ls es) (rival : Rival meaning es ls ls')
      (shows : (e : Edit L) → In e es → meant meaning (label_in ls' e.origin) ≡ Some (meaning e.asked)) where
    meets_arrow : (k : ℕ) (o : Option (Edit L)) → first (λ e. is_source k e.origin) es ≡ o →
        meant meaning (slice_get ls'.arrows k) ≡ meant meaning (option_map (λ x. asked_or o x) (slice_get ls.arrows k))
    meets_arrow k None h = on (rival.arrows k) ∙ sym (ap (meant meaning) (option_map_id (slice_get ls.arrows k)))
      where
        on : (meant meaning (slice_get ls'.arrows k) ≡ meant meaning (slice_get ls.arrows k)) ⊎ ((e : Edit L) × In e es × (e.origin ≡ Source k)) →
            meant meaning (slice_get ls'.arrows k) ≡ meant meaning (slice_get ls.arrows k)
        on (inl e) = e
        on (inr (e, i, q)) =
            absurd (both_ways (is_source k e.origin) (first_none (λ d. is_source k d.origin) es e i h) (is_source_lem k e.origin q))
    meets_arrow k (Some e) h =
        let f = first_some (λ d. is_source k d.origin) es e h in
        let q : e.origin ≡ Source k = source_is k e.origin f.1 in
        let n = draft.named e f.0 in
        let there : slice_get ls.arrows k ≡ Some n.0 = ap (label_in ls) (sym q) ∙ n.1 in
        ap (λ (o : Origin). meant meaning (label_in ls' o)) (sym q) ∙ shows e f.0 ∙ sym (ap (λ (o : Option L). meant meaning (option_map (λ x. e.asked) o)) there)

    meets : (o : Origin) → meant meaning (label_in ls' o) ≡ meant meaning (label_in (put es ls) o)
    meets Blank = refl
    meets (Source k) =
        meets_arrow k (first (λ e. is_source k e.origin) es) refl
        ∙ sym (ap (meant meaning) (relabelled (λ n x. asked_or (first (λ e. is_source n e.origin) es) x) k ls.arrows))
    meets (Constant c) = ap (λ (xs : List L). meant meaning (slice_get xs c)) rival.constants

  -- two edits that ask one arrow's label
  Agree : Edit L → Edit L → Type 0
  Agree e d = same_arrow e.origin d.origin ≡ true → meaning e.asked ≡ meaning d.asked

  arrow_sym : (a b : Origin) → same_arrow a b ≡ true → same_arrow b a ≡ true
  arrow_sym Blank b h = cc
  arrow_sym (Constant c) b h = cc
  arrow_sym (Source k) Blank h = h
  arrow_sym (Source k) (Source j) h = eq-eqb j k (sym (eqb-true k j h))
  arrow_sym (Source k) (Constant c) h = h

  agree_of : (e d : Edit L) → otherwise alike e d ≡ false → Agree e d
  unfolding Agree
  agree_of e d h q = on (and_cases (same_arrow e.origin d.origin) (not (alike e.asked d.asked)) h)
    where
      on : (same_arrow e.origin d.origin ≡ false) ⊎ (not (alike e.asked d.asked) ≡ false) → meaning e.asked ≡ meaning d.asked
      on (inl k) = absurd (both_ways _ k q)
      on (inr k) = (exact e.asked d.asked).0 (not-false _ k)

  agree_sym : (e d : Edit L) → Agree e d → Agree d e
  unfolding Agree
  agree_sym e d h q = sym (h (arrow_sym d.origin e.origin q))

  agree_self : (e : Edit L) → Agree e e
  unfolding Agree
  agree_self e q = refl

  Agreed : List (Edit L) → Type 0
  Agreed es = (e d : Edit L) → In e es → In d es → Agree e d

  clash_none : (e : Edit L) (o rest : Option (Edit L)) → clash_for alike e o rest ≡ None → (o ≡ None) × (rest ≡ None)
  clash_none e None rest h = (refl, h)
  clash_none e (Some d) rest h = cc

  clash_some : (e f : Edit L) (o rest : Option (Edit L)) → clash_for alike e o rest ≡ Some f → ((d : Edit L) × (o ≡ Some d) × (e ≡ f)) ⊎ (rest ≡ Some f)
  clash_some e f None rest h = inr h
  clash_some e f (Some d) rest h = inl (d, refl, cc)

  agreed_one : (low : List (Edit L)) (e : Edit L) → Agreed low → ((d : Edit L) → In d low → Agree e d) → Agreed (low ++ (e ∷ []))
  unfolding Agreed
  agreed_one low e h k x y i j = on (in_either x low (e ∷ []) i) (in_either y low (e ∷ []) j)
    where
      on : In x low ⊎ ((x ≡ e) ⊎ ⊥) → In y low ⊎ ((y ≡ e) ⊎ ⊥) → Agree x y
      on (inl a) (inl b) = h x y a b
      on (inl a) (inr (inl q)) = subst (λ (z : Edit L). Agree x z) (sym q) (agree_sym e x (k x a))
      on (inr (inl q)) (inl b) = subst (λ (z : Edit L). Agree z y) (sym q) (k y b)
      on (inr (inl q)) (inr (inl r)) = subst (λ (z : Edit L). Agree z y) (r ∙ sym q) (agree_self y)
      on (inl a) (inr (inr b)) = absurd b
      on (inr (inl q)) (inr (inr b)) = absurd b
      on (inr (inr a)) b = absurd a

  agreed : (es low : List (Edit L)) → Agreed low → clashing alike low es ≡ None → Agreed (low ++ es)
  agreed [] low h c = subst Agreed (sym (append-nil low)) h
  agreed (e ∷ es) low h c =
      let k = clash_none e (first (otherwise alike e) low) (clashing alike (low ++ (e ∷ [])) es) c in
      subst Agreed (append_assoc low (e ∷ []) es)
      (agreed es (low ++ (e ∷ [])) (agreed_one low e h (λ d i. agree_of e d (first_none (otherwise alike e) low d i k.0))) k.1)

  -- a clash: an edit, and a lower one that asks otherwise
  clashed : (es low : List (Edit L)) (f : Edit L) → clashing alike low es ≡ Some f → (d : Edit L) × In d (low ++ es) × In f (low ++ es) × (otherwise alike f d ≡ true)
  clashed [] low f c = cc
  clashed (e ∷ es) low f c = on (λ k. clashed es (low ++ (e ∷ [])) f k) (clash_some e f (first (otherwise alike e) low) (clashing alike (low ++ (e ∷ [])) es) c)
    where
      on : (clashing alike (low ++ (e ∷ [])) es ≡ Some f → (d : Edit L) × In d (low ++ (e ∷ []) ++ es) × In f (low ++ (e ∷ []) ++ es) × (otherwise alike f d ≡ true)) →
          ((d : Edit L) × (first (otherwise alike e) low ≡ Some d) × (e ≡ f)) ⊎ (clashing alike (low ++ (e ∷ [])) es ≡ Some f) →
          (d : Edit L) × In d (low ++ (e ∷ es)) × In f (low ++ (e ∷ es)) × (otherwise alike f d ≡ true)
      on ih (inl (d, q, r)) =
          let k = first_some (otherwise alike e) low d q in
          (d, in_left d low (e ∷ es) k.0, in_right f low (e ∷ es) (inl (sym r)), subst (λ (z : Edit L). otherwise alike z d ≡ true) r k.1)
      on ih (inr k) =
          let x = ih k in
          (x.0, subst (λ (l : List (Edit L)). In x.0 l) (append_assoc low (e ∷ []) es) x.1, subst (λ (l : List (Edit L)). In f l) (append_assoc low (e ∷ []) es) x.2, x.3)

  arrow_eq : (a b : Origin) → same_arrow a b ≡ true → a ≡ b
  arrow_eq Blank b h = cc
  arrow_eq (Source k) b h = sym (source_is k b h)
  arrow_eq (Constant c) b h = cc

  -- no labelling serves where two edits ask one arrow otherwise
  no_clash : (ls' : Labelling L) (e d : Edit L) → otherwise alike e d ≡ true →
      meant meaning (label_in ls' e.origin) ≡ Some (meaning e.asked) → meant meaning (label_in ls' d.origin) ≡ Some (meaning d.asked) → ⊥
  no_clash ls' e d h p q =
      let f = and_parts (same_arrow e.origin d.origin) (not (alike e.asked d.asked)) h in
      let o : e.origin ≡ d.origin = arrow_eq e.origin d.origin f.0 in
      let g : Some (meaning e.asked) ≡ Some (meaning d.asked) = sym p ∙ ap (λ (z : Origin). meant meaning (label_in ls' z)) o ∙ q in
      both_ways (alike e.asked d.asked) (not-true _ f.1) ((exact e.asked d.asked).1 (cc))

  constant_shows : (ls ls' : Labelling L) (es : List (Edit L)) → Rival meaning es ls ls' → (o : Origin) → is_constant o ≡ true → meant meaning (label_in ls' o) ≡ meant meaning (label_in ls o)
  constant_shows ls ls' es r Blank h = refl
  constant_shows ls ls' es r (Source k) h = cc
  constant_shows ls ls' es r (Constant c) h = ap (λ (xs : List L). meant meaning (slice_get xs c)) r.constants

  refusal : (b : Bool) → (b ≡ false → ⊥) → b ≡ true
  refusal true f = refl
  refusal false f = absurd (f refl)

  module _ (o : Opening L) (ls : Labelling L) (es : List (Edit L)) (run : forward (compare_by alike ls) o.graph o.tree ≡ done o.node o.course) (draft : Draft meaning ls es) where
    -- a run of this course: its comparisons hold
    held : (cmp : Compare) → course_of (forward cmp o.graph o.tree) ≡ Some o.course → Every (Holds cmp) o.course.comparisons
    held cmp h = on (forward cmp o.graph o.tree) refl h
      where
        on : (r : Run ℕ) → forward cmp o.graph o.tree ≡ r → course_of r ≡ Some o.course → Every (Holds cmp) o.course.comparisons
        on (done v c) e k =
            let q : c ≡ o.course = cc in
            recorded cmp o.graph o.tree v o.course (e ∙ ap (λ (z : Course). done v z) q)
        on (full x) e k = cc

    at_constant : (e : Edit L) → first (λ d. is_constant d.origin) es ≡ Some e → NoneServes alike meaning o ls es
    at_constant e h ls' rival serves =
        let f = first_some (λ d. is_constant d.origin) es e h in
        draft.differs e f.0 (sym (constant_shows ls ls' es rival e.origin f.1) ∙ serves.shows e f.0)

    at_clash : (e : Edit L) → clashing alike [] es ≡ Some e → NoneServes alike meaning o ls es
    at_clash e h ls' rival serves =
        let k = clashed es [] e h in
        no_clash ls' e k.0 k.3 (serves.shows e k.2) (serves.shows k.0 k.1)

    at_turn : (t : ℕ × Comparison) → turns (compare_by alike (put es ls)) 0 o.course.comparisons ≡ Some t → NoneServes alike meaning o ls es
    at_turn t h ls' rival serves =
        let same-cmp : (a b : Origin) → compare_by alike ls' a b ≡ compare_by alike (put es ls) a b = respects ls' (put es ls) (meets ls ls' es draft rival serves.shows) in
        let all : Every (Holds (compare_by alike (put es ls))) o.course.comparisons =
        every_to (Holds (compare_by alike ls')) (Holds (compare_by alike (put es ls))) (λ y q. q ∙ same-cmp y.left y.right) o.course.comparisons
        (held (compare_by alike ls') serves.course) in
        cc (sym (turns_back (compare_by alike (put es ls)) 0 o.course.comparisons all) ∙ h)

    -- the labels asked serve
    put_rival : Rival meaning es ls (put es ls)
    put_rival =
        record {
          size = relabel_length (λ n x. asked_or (first (λ e. is_source n e.origin) es) x) 0 ls.arrows;
          arrows = λ k. on k (first (λ e. is_source k e.origin) es) refl;
          constants = refl;
        }
      where
        on : (k : ℕ) (w : Option (Edit L)) → first (λ e. is_source k e.origin) es ≡ w →
            (meant meaning (slice_get (put es ls).arrows k) ≡ meant meaning (slice_get ls.arrows k)) ⊎ ((e : Edit L) × In e es × (e.origin ≡ Source k))
        on k None h =
            inl
            (ap (meant meaning)
            (relabelled (λ n x. asked_or (first (λ e. is_source n e.origin) es) x) k ls.arrows
            ∙ ap (λ (w : Option (Edit L)). option_map (λ x. asked_or w x) (slice_get ls.arrows k)) h ∙ option_map_id (slice_get ls.arrows k)))
        on k (Some e) h = let f = first_some (λ d. is_source k d.origin) es e h in inr (e, f.0, source_is k e.origin f.1)

    pub put_shows : first (λ d. is_constant d.origin) es ≡ None → clashing alike [] es ≡ None →
        (e : Edit L) → In e es → meant meaning (label_in (put es ls) e.origin) ≡ Some (meaning e.asked)
    unfolding Agreed Agree
    put_shows h k e i = on e.origin refl
      where
        at_arrow : (j : ℕ) → e.origin ≡ Source j → (x : L) (w : Option (Edit L)) → first (λ d. is_source j d.origin) es ≡ w → meaning (asked_or w x) ≡ meaning e.asked
        at_arrow j q x None r =
            absurd (both_ways (is_source j e.origin) (first_none (λ d. is_source j d.origin) es e i r) (is_source_lem j e.origin q))
        at_arrow j q x (Some d) r =
            let f = first_some (λ d'. is_source j d'.origin) es d r in
            let a : Agree e d = agreed es [] (λ x' y' a' b'. absurd a') k e d i f.0 in
            sym (a (ap (λ (z : Origin). same_arrow z d.origin) q ∙ f.1))

        on : (w : Origin) → e.origin ≡ w → meant meaning (label_in (put es ls) e.origin) ≡ Some (meaning e.asked)
        on Blank q = cc (ap (label_in ls) (sym q) ∙ (draft.named e i).1)
        on (Constant j) q = absurd (both_ways (is_constant e.origin) (first_none (λ d. is_constant d.origin) es e i h) (ap is_constant q))
        on (Source j) q =
            let n = draft.named e i in
            let there : slice_get ls.arrows j ≡ Some n.0 = ap (label_in ls) (sym q) ∙ n.1 in
            ap (λ (z : Origin). meant meaning (label_in (put es ls) z)) q
            ∙ ap (meant meaning) (relabelled (λ m' x'. asked_or (first (λ d. is_source m' d.origin) es) x') j ls.arrows)
            ∙ ap (λ (z : Option L). meant meaning (option_map (λ x'. asked_or (first (λ d. is_source j d.origin) es) x') z)) there
            ∙ ap (λ (v : V). Some v) (at_arrow j q n.0 (first (λ d. is_source j d.origin) es) refl)

    put_serves : first (λ d. is_constant d.origin) es ≡ None → clashing alike [] es ≡ None →
        turns (compare_by alike (put es ls)) 0 o.course.comparisons ≡ None → Serves alike meaning o es (put es ls)
    put_serves h k t =
        record {
          course =
              ap course_of
              ((same_course (compare_by alike ls) (compare_by alike (put es ls)) o.graph o.tree o.node o.course run).1 (turns_none (compare_by alike (put es ls)) 0 o.course.comparisons t));
          shows = put_shows h k;
        }

    module _ (full : Bool) where
      -- the verdict, check by check
      room : Result ℕ Refusal
      room = cond full (Err FullHistory) (Ok (length (changes es)))

      fourth : (b : Bool) → refused (cond b (Err FullHistory) (Ok (length (changes es)))) ≡ false
      fourth true = refl
      fourth false = refl

      third : first (λ d. is_constant d.origin) es ≡ None → clashing alike [] es ≡ None →
          (w : Option (ℕ × Comparison)) → turns (compare_by alike (put es ls)) 0 o.course.comparisons ≡ w →
          (refused (refuse_where w (λ t. Turns (turn_of es t)) room) ≡ true) ↔ NoneServes alike meaning o ls es
      unfolding room
      third h k None t = (λ e. absurd (both_ways (refused room) (fourth full) e), λ n. absurd (n (put es ls) put_rival (put_serves h k t)))
      third h k (Some y) t = (λ e. at_turn y t, λ n. refl)

      turning : Result ℕ Refusal
      turning = refuse_where (turns (compare_by alike (put es ls)) 0 o.course.comparisons) (λ t. Turns (turn_of es t)) room

      second : first (λ d. is_constant d.origin) es ≡ None → (w : Option (Edit L)) → clashing alike [] es ≡ w →
          (refused (refuse_where w (λ e. Clashes (clash_of es e)) turning) ≡ true) ↔ NoneServes alike meaning o ls es
      unfolding turning
      second h None k = third h k (turns (compare_by alike (put es ls)) 0 o.course.comparisons) refl
      second h (Some e) k = (λ q. at_clash e k, λ n. refl)

      clashed_or : Result ℕ Refusal
      clashed_or = refuse_where (clashing alike [] es) (λ e. Clashes (clash_of es e)) turning

      begin : (w : Option (Edit L)) → first (λ d. is_constant d.origin) es ≡ w →
          (refused (refuse_where w (λ e. ConstantRow e.row) clashed_or) ≡ true) ↔ NoneServes alike meaning o ls es
      unfolding clashed_or
      begin None h = second h (clashing alike [] es) refl
      begin (Some e) h = (λ q. at_constant e h, λ n. refl)

  pub edit_law : (s n : ℕ) (o : Opening L) (ls : Labelling L) (es : List (Edit L)) → forward (compare_by alike ls) o.graph o.tree ≡ done o.node o.course →
      Draft meaning ls es → (refused (verdict alike s n o.course.comparisons ls es) ≡ true) ↔ NoneServes alike meaning o ls es
  unfolding clashed_or turning room
  edit_law s n o ls [] run draft = (
    λ e. absurd (both_ways false refl e),
    λ k. absurd (k ls (record { size = refl; arrows = λ j. inl refl; constants = refl }) (record { course = ap course_of run; shows = λ e i. absurd i })),
  )
  edit_law s n o ls (e ∷ es) run draft = begin o ls (e ∷ es) run draft (crowds s n (e ∷ es)) (first (λ d. is_constant d.origin) (e ∷ es)) refl
