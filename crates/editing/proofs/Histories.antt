-- After any calls the present labels give the opening's course, and the edits of a draft have labels that they do not ask.
-- Assumes nothing.
use Rattle.std.proofs.Common.{◌≡◌, ℕ, Bool, true, false, cond, not, ◌&&◌, eqb, ltb, leb, ◌⊎◌, List, [], ◌∷◌, ◌++◌, length, Some, None, Ok, Err, Option, Result, sym, refl, ap, ◌∙◌, subst, ap₂, inl, inr}
use Rattle.std.specs.List.{slice_get}
use Rattle.std.specs.Option.{option_map}
use Rattle.std.proofs.lemmas.Bool.{eqb-true, eq-eqb, both_ways, cond_both, cond-true, cond-false}
use Rattle.course.specs.declared.course.Origin.{Origin}
use Rattle.course.specs.declared.course.Origin.TheVariants.{Blank, Source, Constant}
use Rattle.course.specs.declared.course.Comparison.{Comparison}
use Rattle.course.specs.Course.{done}
use Rattle.walks.specs.Reach.{In}
use Rattle.course.specs.Forward.{forward}
use Rattle.laws.specs.Labelling.{same_labels}
use Rattle.laws.specs.Recorded.{Holds}
use Rattle.laws.proofs.Everies.{every_to}
use Rattle.laws.proofs.Recording.{same_course}
use Rattle.rows.specs.declared.row.Row.{Row}
use Rattle.editing.specs.declared.refusal.Refusal.{Refusal}
use Rattle.editing.specs.declared.refusal.Refusal.TheVariants.{NoEdit, ConstantRow, Clashes, Turns, FullHistory, NothingStanding, NothingUndone}
use Rattle.editing.specs.declared.request.Edit.{Edit}
use Rattle.editing.specs.declared.request.Request.{Request}
use Rattle.editing.specs.declared.request.Request.TheVariants as ask
use Rattle.editing.specs.declared.request.Answer.TheVariants as answer
use Rattle.editing.specs.Drafts.{Labelling, label_in, relabel, compare_by, is_source, is_constant, same_arrow, turns, Change, first, asked_or, put, change_for, changes_over, changes, crowds, is_empty, clash_of, turn_of, refuse_where, clashing, verdict}
use Rattle.editing.specs.Model
use Rattle.editing.specs.Model.{Opening, rows_shown, Call, State, Effect, stays, drafts, commits, undoes, redoes, Response, given, latest, under, present, refuse, says, found, idle, fits, insert, remove, edited, settled, tried, moved, size_of, shows, judge, marked, decide, decide_open, view, act, undone, redone, start, next, after_from}
use Rattle.editing.specs.Law.{Exact, meant, Opens}
use Rattle.editing.proofs.Editing.{Draft, shows_meant, turns_none, source_is}
use Rattle.editing.proofs.RowLabels.{row_labelled}
use Rattle.editing.proofs.Relabelling.{relabelled, relabel_length, relabel_same}

-- the lowest edit that passes, of a list with one more at the end
module _ {L : Type 0} where
  first_push : (p : Edit L → Bool) (xs : List (Edit L)) (e : Edit L) → first p xs ≡ None → first p (xs ++ (e ∷ [])) ≡ cond (p e) (Some e) None
  first_push p [] e h = refl
  first_push p (x ∷ xs) e h = on (λ k. first_push p xs e k) (p x) refl h
    where
      on : (first p xs ≡ None → first p (xs ++ (e ∷ [])) ≡ cond (p e) (Some e) None) → (b : Bool) → p x ≡ b → cond b (Some x) (first p xs) ≡ None → cond (p x) (Some x) (first p (xs ++ (e ∷ []))) ≡ cond (p e) (Some e) None
      on ih true q k = cc
      on ih false q k = cond-false (p x) _ _ q ∙ ih k

  first_kept : (p : Edit L → Bool) (xs : List (Edit L)) (e y : Edit L) → first p xs ≡ Some y → first p (xs ++ (e ∷ [])) ≡ Some y
  first_kept p [] e y h = cc
  first_kept p (x ∷ xs) e y h = on (λ k. first_kept p xs e y k) (p x) refl h
    where
      on : (first p xs ≡ Some y → first p (xs ++ (e ∷ [])) ≡ Some y) → (b : Bool) → p x ≡ b → cond b (Some x) (first p xs) ≡ Some y → cond (p x) (Some x) (first p (xs ++ (e ∷ []))) ≡ Some y
      on ih true q k = cond-true (p x) _ _ q ∙ k
      on ih false q k = cond-false (p x) _ _ q ∙ ih k

  -- an arrow that a lower edit names gets no change
  given_seen : (k : ℕ) (low es : List (Edit L)) (d : L) (y : Edit L) → first (λ e. is_source k e.origin) low ≡ Some y → given k (changes_over low es) d ≡ d
  given_seen k low [] d y h = refl
  given_seen k low (e ∷ es) d y h = on e.origin refl (given_seen k (low ++ (e ∷ [])) es d y (first_kept (λ x. is_source k x.origin) low e y h))
    where
      step : (j : ℕ) (f : Option (Edit L)) (l : L) (xs : List (Change L)) → first (λ x. is_source j x.origin) low ≡ f → given k xs d ≡ d → given k (change_for (Source j) l f xs) d ≡ d
      step j (Some x) l xs q ih = ih
      step j None l xs q ih = other (eqb k j) refl
        where
          other : (b : Bool) → eqb k j ≡ b → given k xs (cond (eqb k j) l d) ≡ d
          other true r = cc (sym q ∙ ap (λ (z : ℕ). first (λ x. is_source z x.origin) low) (sym (eqb-true k j r)) ∙ h)
          other false r = ap (λ (b : Bool). given k xs (cond b l d)) r ∙ ih

      on : (o : Origin) → e.origin ≡ o → given k (changes_over (low ++ (e ∷ [])) es) d ≡ d → given k (change_for e.origin e.asked (first (λ x. same_arrow e.origin x.origin) low) (changes_over (low ++ (e ∷ [])) es)) d ≡ d
      on Blank q ih = ap (λ (z : Origin). given k (change_for z e.asked (first (λ x. same_arrow z x.origin) low) (changes_over (low ++ (e ∷ [])) es)) d) q ∙ ih
      on (Constant c) q ih = ap (λ (z : Origin). given k (change_for z e.asked (first (λ x. same_arrow z x.origin) low) (changes_over (low ++ (e ∷ [])) es)) d) q ∙ ih
      on (Source j) q ih =
          ap (λ (z : Origin). given k (change_for z e.asked (first (λ x. same_arrow z x.origin) low) (changes_over (low ++ (e ∷ [])) es)) d) q
          ∙ step j (first (λ x. is_source j x.origin) low) e.asked (changes_over (low ++ (e ∷ [])) es) refl ih

  given_over : (k : ℕ) (low es : List (Edit L)) (d : L) → first (λ e. is_source k e.origin) low ≡ None → given k (changes_over low es) d ≡ asked_or (first (λ e. is_source k e.origin) es) d
  given_over k low [] d h = refl
  given_over k low (e ∷ es) d h =
      on (is_source k e.origin) refl (λ q. given_over k (low ++ (e ∷ [])) es d q) (λ x q. given_seen k (low ++ (e ∷ [])) es x e q)
    where
      not_mine : (o : Origin) → is_source k o ≡ false → given k (changes_over (low ++ (e ∷ [])) es) d ≡ asked_or (first (λ x. is_source k x.origin) es) d
          → given k (change_for o e.asked (first (λ x. same_arrow o x.origin) low) (changes_over (low ++ (e ∷ [])) es)) d ≡ asked_or (first (λ x. is_source k x.origin) es) d
      not_mine Blank q ih = ih
      not_mine (Constant c) q ih = ih
      not_mine (Source j) q ih = which (first (λ x. is_source j x.origin) low)
        where
          which : (f : Option (Edit L)) → given k (change_for (Source j) e.asked f (changes_over (low ++ (e ∷ [])) es)) d ≡ asked_or (first (λ x. is_source k x.origin) es) d
          which (Some x) = ih
          which None = ap (λ (b : Bool). given k (changes_over (low ++ (e ∷ [])) es) (cond b e.asked d)) q ∙ ih

      mine : (o : Origin) → o ≡ Source k → ((x : L) → given k (changes_over (low ++ (e ∷ [])) es) x ≡ x)
          → given k (change_for o e.asked (first (λ x. same_arrow o x.origin) low) (changes_over (low ++ (e ∷ [])) es)) d ≡ e.asked
      mine o q ih =
          ap (λ (z : Origin). given k (change_for z e.asked (first (λ x. same_arrow z x.origin) low) (changes_over (low ++ (e ∷ [])) es)) d) q
          ∙ ap (λ (f : Option (Edit L)). given k (change_for (Source k) e.asked f (changes_over (low ++ (e ∷ [])) es)) d) h
          ∙ ap (λ (b : Bool). given k (changes_over (low ++ (e ∷ [])) es) (cond b e.asked d)) (eq-eqb k k refl) ∙ ih e.asked

      on : (b : Bool) → is_source k e.origin ≡ b
          → (first (λ x. is_source k x.origin) (low ++ (e ∷ [])) ≡ None → given k (changes_over (low ++ (e ∷ [])) es) d ≡ asked_or (first (λ x. is_source k x.origin) es) d)
          → ((x : L) → first (λ y. is_source k y.origin) (low ++ (e ∷ [])) ≡ Some e → given k (changes_over (low ++ (e ∷ [])) es) x ≡ x)
          → given k (change_for e.origin e.asked (first (λ x. same_arrow e.origin x.origin) low) (changes_over (low ++ (e ∷ [])) es)) d ≡ asked_or (cond (is_source k e.origin) (Some e) (first (λ x. is_source k x.origin) es)) d
      on false q ih jh =
          not_mine e.origin q (ih (first_push (λ x. is_source k x.origin) low e h ∙ cond-false (is_source k e.origin) _ _ q))
          ∙ ap (λ (b : Bool). asked_or (cond b (Some e) (first (λ x. is_source k x.origin) es)) d) (sym q)
      on true q ih jh =
          mine e.origin (source_is k e.origin q) (λ x. jh x (first_push (λ y. is_source k y.origin) low e h ∙ cond-true (is_source k e.origin) _ _ q))
          ∙ ap (λ (b : Bool). asked_or (cond b (Some e) (first (λ x. is_source k x.origin) es)) d) (sym q)

  given_changes : (k : ℕ) (es : List (Edit L)) (d : L) → given k (changes es) d ≡ asked_or (first (λ e. is_source k e.origin) es) d
  given_changes k es d = given_over k [] es d refl

  pub committed : (ls : Labelling L) (ts : List (List (Change L))) (es : List (Edit L)) (o : Origin) → label_in (under ls (changes es ∷ ts)) o ≡ label_in (put es (under ls ts)) o
  committed ls ts es Blank = refl
  committed ls ts es (Source k) =
      relabelled (λ n x. latest n (changes es ∷ ts) x) k ls.arrows ∙ both (slice_get ls.arrows k)
      ∙ sym (relabelled (λ n x. asked_or (first (λ e. is_source n e.origin) es) x) k (relabel (λ n x. latest n ts x) 0 ls.arrows)
      ∙ ap (option_map (λ x. asked_or (first (λ e. is_source k e.origin) es) x)) (relabelled (λ n x. latest n ts x) k ls.arrows))
    where
      both : (o : Option L) → option_map (λ x. given k (changes es) (latest k ts x)) o ≡ option_map (λ x. asked_or (first (λ e. is_source k e.origin) es) x) (option_map (λ x. latest k ts x) o)
      both None = refl
      both (Some x) = ap (λ (l : L). Some l) (given_changes k es (latest k ts x))
  committed ls ts es (Constant c) = refl

  -- what a draft holds
  in_insert : (x e : Edit L) (es : List (Edit L)) → In x (insert e es) → (x ≡ e) ⊎ In x es
  in_insert x e [] (inl q) = inl q
  in_insert x e [] (inr i) = inr i
  in_insert x e (d ∷ ds) i = on (ltb e.row d.row) (eqb e.row d.row) (in_insert x e ds) i
    where
      on : (s t : Bool) → (In x (insert e ds) → (x ≡ e) ⊎ In x ds) → In x (cond s (e ∷ d ∷ ds) (cond t (e ∷ ds) (d ∷ insert e ds))) → (x ≡ e) ⊎ In x (d ∷ ds)
      on true t ih (inl q) = inl q
      on true t ih (inr k) = inr k
      on false true ih (inl q) = inl q
      on false true ih (inr k) = inr (inr k)
      on false false ih (inl q) = inr (inl q)
      on false false ih (inr k) = elim (ih k) [ inl q ↦ inl q | inr m ↦ inr (inr m) ]

  in_remove : (x : Edit L) (r : ℕ) (es : List (Edit L)) → In x (remove r es) → In x es
  in_remove x r [] i = i
  in_remove x r (d ∷ ds) i = on (ltb r d.row) (eqb r d.row) (in_remove x r ds) i
    where
      on : (s t : Bool) → (In x (remove r ds) → In x ds) → In x (cond s (d ∷ ds) (cond t ds (d ∷ remove r ds))) → In x (d ∷ ds)
      on true t ih k = k
      on false true ih k = inr k
      on false false ih (inl q) = inl q
      on false false ih (inr k) = inr (ih k)

-- a verdict that takes the edits has passed every check
where_ok : {X : Type 0} (w : Option X) (e : X → Refusal) (v : Result ℕ Refusal) (n : ℕ) → refuse_where w e v ≡ Ok n → (w ≡ None) × (v ≡ Ok n)
where_ok None e v n h = (refl, h)
where_ok (Some x) e v n h = cc

unless_ok : (b : Bool) (e : Refusal) (v : Result ℕ Refusal) (n : ℕ) → cond b (Err e) v ≡ Ok n → (b ≡ false) × (v ≡ Ok n)
unless_ok true e v n h = cc
unless_ok false e v n h = (refl, h)

pub record Passed {L : Type 0} (alike : L → L → Bool) (cs : List Comparison) (ls : Labelling L) (es : List (Edit L)) (n : ℕ) : Type 0 where
  pub no_constant : first (λ e. is_constant e.origin) es ≡ None
  pub no_clash : clashing alike [] es ≡ None
  pub no_turn : turns (compare_by alike (put es ls)) 0 cs ≡ None
  pub many : n ≡ length (changes es)

pub passed : {L : Type 0} (alike : L → L → Bool) (s u : ℕ) (cs : List Comparison) (ls : Labelling L) (es : List (Edit L)) (n : ℕ) → verdict alike s u cs ls es ≡ Ok n → Passed alike cs ls es n
passed alike s u cs ls es n h =
    let a = unless_ok (is_empty es) NoEdit _ n h in
    let b = where_ok (first (λ e. is_constant e.origin) es) (λ e. ConstantRow e.row) _ n a.1 in
    let c = where_ok (clashing alike [] es) (λ e. Clashes (clash_of es e)) _ n b.1 in
    let d = where_ok (turns (compare_by alike (put es ls)) 0 cs) (λ t. Turns (turn_of es t)) _ n c.1 in
    let f = unless_ok (crowds s u es) FullHistory (Ok (length (changes es))) n d.1 in
    record { no_constant = b.0; no_clash = c.0; no_turn = d.0; many = (let z : ◌≡◌ {A = ℕ} n (length (changes es)) = cc in z) }

module _ {L V : Type 0} (alike : L → L → Bool) (meaning : L → V) (exact : Exact alike meaning) (o : Opening L) (opens : Opens alike o) where
  unfoldable pub Takes : List (List (Change L)) → Type 0
  Takes ts = forward (compare_by alike (under o.labels ts)) o.graph o.tree ≡ done o.node o.course

  unfoldable pub Back : List (List (Change L)) → Type 0
  Back [] = Takes []
  Back (t ∷ ts) = Takes (t ∷ ts) × Back ts

  unfoldable pub Ahead : List (List (Change L)) → List (List (Change L)) → Type 0
  Ahead ts [] = Unit {0}
  Ahead ts (u ∷ us) = Takes (u ∷ ts) × Ahead (u ∷ ts) us

  pub takes_back : (ts : List (List (Change L))) → Back ts → Takes ts
  unfolding Back
  takes_back [] b = b
  takes_back (t ∷ ts) b = b.0

  -- each edit is of a row that there is, and has its origin
  unfoldable pub Rowed : List (Edit L) → Type 0
  Rowed es = (e : Edit L) → In e es → (row : Row) × (slice_get (rows_shown o) e.row ≡ Some row) × (row.origin ≡ e.origin)

  unfoldable pub Drafted : Option (List (Edit L)) → List (List (Change L)) → Type 0
  Drafted None ts = Unit {0}
  Drafted (Some es) ts = Draft meaning (under o.labels ts) es × Rowed es

  unfoldable pub Holding : State L → Type 0
  Holding st = Back st.standing × Ahead st.standing st.undone × Drafted st.draft st.standing

  empty_draft : (ts : List (List (Change L))) → Draft meaning (under o.labels ts) []
  empty_draft ts = record { named = λ e i. absurd i; differs = λ e i. absurd i }

  less : (ls : Labelling L) (r : ℕ) (es : List (Edit L)) → Draft meaning ls es → Draft meaning ls (remove r es)
  less ls r es d = record { named = λ e i. d.named e (in_remove e r es i); differs = λ e i. d.differs e (in_remove e r es i) }

  more : (ls : Labelling L) (x : Edit L) (es : List (Edit L)) → (l : L) × (label_in ls x.origin ≡ Some l) → shows alike (label_in ls x.origin) x.asked ≡ false →
      Draft meaning ls es → Draft meaning ls (insert x es)
  more ls x es n f d =
      record {
        named = λ e i. elim (in_insert e x es i) [ inl q ↦ (n.0, ap (λ (y : Edit L). label_in ls y.origin) q ∙ n.1) | inr j ↦ d.named e j ];
        differs = λ e i k. elim (in_insert e x es i) [
          | inl q ↦ both_ways _ f (shows_meant alike meaning exact (label_in ls x.origin) x.asked
              (subst (λ (y : Edit L). meant meaning (label_in ls y.origin) ≡ Some (meaning y.asked)) q k))
          | inr j ↦ d.differs e j k
        ];
      }

  rowed_less : (r : ℕ) (es : List (Edit L)) → Rowed es → Rowed (remove r es)
  unfolding Rowed
  rowed_less r es d e i = d e (in_remove e r es i)

  rowed_more : (x : Edit L) (es : List (Edit L)) (row : Row) → slice_get (rows_shown o) x.row ≡ Some row → row.origin ≡ x.origin → Rowed es → Rowed (insert x es)
  unfolding Rowed
  rowed_more x es row h k d e i =
      elim (in_insert e x es i) [
        | inl q ↦ subst (λ (y : Edit L). (z : Row) × (slice_get (rows_shown o) y.row ≡ Some z) × (z.origin ≡ y.origin)) (sym q) (row, h, k)
        | inr j ↦ d e j
      ]

  commit_takes : (ts : List (List (Change L))) (es : List (Edit L)) → Takes ts → turns (compare_by alike (put es (under o.labels ts))) 0 o.course.comparisons ≡ None → Takes (changes es ∷ ts)
  unfolding Takes
  commit_takes ts es t h =
      let new = compare_by alike (under o.labels (changes es ∷ ts)) in
      let asked = compare_by alike (put es (under o.labels ts)) in
      let eq : (a b : Origin) → asked a b ≡ new a b = λ a b. sym (ap₂ (same_labels alike) (committed o.labels ts es a) (committed o.labels ts es b)) in
      (same_course (compare_by alike (under o.labels ts)) new o.graph o.tree o.node o.course t).1
      (every_to (Holds asked) (Holds new) (λ y q. q ∙ eq y.left y.right) o.course.comparisons (turns_none asked 0 o.course.comparisons h))

  pub row_label : (ts : List (List (Change L))) (r : ℕ) (row : Row) → slice_get (rows_shown o) r ≡ Some row → (l : L) × (label_in (under o.labels ts) row.origin ≡ Some l)
  row_label ts r row h = row_labelled alike o opens (under o.labels ts) (relabel_length (λ k x. latest k ts x) 0 o.labels.arrows) refl r row h

  unfoldable pub NonEmpty : List (List (Change L)) → Type 0
  NonEmpty [] = ⊥
  NonEmpty (t ∷ ts) = Unit {0}

  -- what an effect must keep
  unfoldable pub Allowed : State L → Effect L → Type 0
  Allowed st stays = Unit {0}
  Allowed st (drafts d) = Drafted d st.standing
  Allowed st (commits t) = Takes (t ∷ st.standing)
  Allowed st undoes = NonEmpty st.standing
  Allowed st redoes = NonEmpty st.undone

  module _ (st : State L) where
    undo_holds : (ts : List (List (Change L))) → st.standing ≡ ts → NonEmpty ts → st.draft ≡ None → Holding st → Holding (undone st ts)
    unfolding Holding Back Ahead Drafted NonEmpty
    undo_holds [] e n d h = absurd n
    undo_holds (t ∷ ts) e n d h =
        let b : Back (t ∷ ts) = subst Back e h.0 in
        (b.1, (b.0, subst (λ (z : List (List (Change L))). Ahead z st.undone) e h.1), subst (λ (z : Option (List (Edit L))). Drafted z ts) (sym d) tt)

    redo_holds : (us : List (List (Change L))) → st.undone ≡ us → NonEmpty us → st.draft ≡ None → Holding st → Holding (redone st us)
    unfolding Holding Back Ahead Drafted NonEmpty
    redo_holds [] e n d h = absurd n
    redo_holds (u ∷ us) e n d h =
        let a : Ahead st.standing (u ∷ us) = subst (Ahead st.standing) e h.1 in
        ((a.0, h.0), a.1, subst (λ (z : Option (List (Edit L))). Drafted z (u ∷ st.standing)) (sym d) tt)

    -- undo and redo come with no draft open
    Idle : Effect L → Type 0
    Idle stays = Unit {0}
    Idle (drafts d) = Unit {0}
    Idle (commits t) = Unit {0}
    Idle undoes = st.draft ≡ None
    Idle redoes = st.draft ≡ None

    act_holds : (e : Effect L) → Allowed st e → Idle e → Holding st → Holding (act e st)
    unfolding Holding Back Ahead Drafted Allowed Idle
    act_holds stays a i h = h
    act_holds (drafts d) a i h = (h.0, h.1, a)
    act_holds (commits t) a i h = ((a, h.0), tt, tt)
    act_holds undoes a i h = undo_holds st.standing refl a i h
    act_holds redoes a i h = redo_holds st.undone refl a i h

    Good : Response L → Type 0
    Good out = Allowed st out.0 × Idle out.0

    module _ (h : Holding st) where
      settled_good : (es : List (Edit L)) (v : Result ℕ Refusal) → ((n : ℕ) → v ≡ Ok n → Takes (changes es ∷ st.standing)) → Good (settled es v)
      unfolding Good Allowed Idle Drafted
      settled_good es (Ok n) f = (f n refl, tt)
      settled_good es (Err e) f = (tt, tt)

      tried_good : (v : Result ℕ Refusal) → Good (tried v)
      unfolding Good Allowed Idle
      tried_good (Ok n) = (tt, tt)
      tried_good (Err e) = (tt, tt)

      moved_good : (e : Effect L) (x : Refusal) (ts : List (List (Change L))) → (NonEmpty ts → Good (e, answer.Done)) → Good (moved e x (size_of ts))
      unfolding Good Allowed Idle NonEmpty
      moved_good e x [] f = (tt, tt)
      moved_good e x (t ∷ ts) f = f tt

      found_good : {X : Type 0} (w : Option X) (e : Refusal) (f : X → Response L) → ((x : X) → w ≡ Some x → Good (f x)) → Good (found w e f)
      unfolding Good Allowed Idle
      found_good None e f k = (tt, tt)
      found_good (Some x) e f k = k x refl

      mark_good : (row : Row) (r : ℕ) (l : L) (es : List (Edit L)) → Draft meaning (present o st) es → Rowed es → slice_get (rows_shown o) r ≡ Some row → Good (marked alike (view o st) row r l es)
      unfolding Good Allowed Idle Drafted
      mark_good row r l es d w e =
          cond_both (shows alike (label_in (present o st) row.origin) l) _ _ Good
          (λ q. ((less (present o st) r es d, rowed_less r es w), tt))
          (λ q.
          cond_both (not (edited r es) && leb 32 (length es)) _ _ Good (λ k. (tt, tt))
          (λ k.
          let x : Edit L = record { row = r; origin = row.origin; asked = l } in
          ((more (present o st) x es (row_label st.standing r row e) q d, rowed_more x es row e refl w), tt)))

      fits_good : (d : Option (List (Edit L))) (b : Bool) (f : List (Edit L) → Response L) → st.draft ≡ d → ((es : List (Edit L)) → Draft meaning (present o st) es → Rowed es → Good (f es)) → Good (fits d b f)
      unfolding Good Allowed Idle Drafted Holding
      fits_good None b f e k = (tt, tt)
      fits_good (Some es) true f e k = let q = subst (λ (z : Option (List (Edit L))). Drafted z st.standing) e h.2 in k es q.0 q.1
      fits_good (Some es) false f e k = (tt, tt)

      idle_good : (d : Option (List (Edit L))) (x : Response L) → st.draft ≡ d → (st.draft ≡ None → Good x) → Good (idle d x)
      unfolding Good Allowed Idle
      idle_good None x e k = k e
      idle_good (Some es) x e k = (tt, tt)

      open_good : (s : ℕ) (request : Request L) → Good (decide_open alike (view o st) s request)
      unfolding Good Allowed Idle Drafted Holding Rowed
      open_good s ask.Begin = idle_good st.draft _ refl (λ e. ((empty_draft st.standing, λ x i. absurd i), tt))
      open_good s (ask.Mark r l) =
          fits_good st.draft (eqb s o.number) _ refl (λ es d w. found_good (slice_get (rows_shown o) r) _ _ (λ row e. mark_good row r l es d w e))
      open_good s ask.Trial = fits_good st.draft (eqb s o.number) _ refl (λ es d w. tried_good (judge alike (view o st) es))
      open_good s ask.Commit =
          fits_good st.draft (eqb s o.number) _ refl
          (λ es d w. settled_good es (judge alike (view o st) es)
          (λ n e. commit_takes st.standing es (takes_back st.standing h.0)
          (passed alike (length st.standing) (Model.counted st.standing) o.course.comparisons (present o st) es n e).no_turn))
      open_good s ask.Abandon = fits_good st.draft (eqb s o.number) _ refl (λ es d w. (tt, tt))
      open_good s ask.Undo = idle_good st.draft _ refl (λ e. moved_good undoes NothingStanding st.standing (λ n. (n, e)))
      open_good s ask.Redo = idle_good st.draft _ refl (λ e. moved_good redoes NothingUndone st.undone (λ n. (n, e)))
      open_good s (ask.Row r) = found_good (slice_get (rows_shown o) r) _ _ (λ row e. found_good (label_in (present o st) row.origin) _ _ (λ l q. (tt, tt)))
      open_good s (ask.Node i) = found_good (slice_get o.course.nodes i) _ _ (λ x e. (tt, tt))
      open_good s (ask.Arrow i) = found_good (slice_get o.course.arrows i) _ _ (λ x e. (tt, tt))
      open_good s (ask.Frame i) = found_good (slice_get o.course.frames i) _ _ (λ x e. (tt, tt))
      open_good s (ask.Comparison i) = found_good (slice_get o.course.comparisons i) _ _ (λ x e. (tt, tt))
      open_good s (ask.SourceArrow k) = found_good (slice_get o.graph.arrows k) _ _ (λ a e. found_good (slice_get (present o st).arrows k) _ _ (λ l q. (tt, tt)))
      open_good s ask.Counts = (tt, tt)
      open_good s ask.Draft = (tt, tt)
      open_good s (ask.Edit i) = (tt, tt)
      open_good s ask.History = (tt, tt)

      decide_good : (call : Call L) → Good (decide alike (view o st) call)
      unfolding Good Allowed Idle
      decide_good call = cond_both call.short _ _ Good (λ e. (tt, tt)) (λ e. open_good call.slip call.request)

      pub next_holds : (call : Call L) → Holding (next alike o call st)
      unfolding Good
      next_holds call = act_holds (decide alike (view o st) call).0 (decide_good call).0 (decide_good call).1 h

      pub next_allowed : (call : Call L) → Allowed st (decide alike (view o st) call).0
      unfolding Good
      next_allowed call = (decide_good call).0

  after_holds : (calls : List (Call L)) (st : State L) → Holding st → Holding (after_from alike o calls st)
  after_holds [] st h = h
  after_holds (call ∷ calls) st h = after_holds calls (next alike o call st) (next_holds st h call)

  pub start_holds : Holding start
  unfolding Holding Back Ahead Drafted Takes
  start_holds = (ap (λ (xs : List L). forward (compare_by alike (record { arrows = xs; constants = o.labels.constants })) o.graph o.tree) (relabel_same 0 o.labels.arrows) ∙ opens.run, tt, tt)
