-- The machine follows the model, so the law holds of its runs. Assumes nothing.
use Rattle.std.proofs.Common.{◌≡◌, ℕ, zero, suc, ◌+◌, Bool, true, false, cond, eqb, ◌↔◌, List, [], ◌∷◌, ◌++◌, map, length, get_or, take, drop, set, Some, None, Ok, Err, Option, Result, sym, refl, ap, ◌∙◌, subst, append_assoc, append-nil, arith}
use Rattle.std.specs.List.{slice_get}
use Rattle.std.specs.Option.{option_map}
use Rattle.std.proofs.lemmas.Iterator.Adapters.{option_map_id}
use Rattle.std.proofs.lemmas.Bool.{eqb-true, eq-eqb}
use Rattle.std.proofs.lemmas.List.{length-append, length-map, length-set, take_at, drop_at, get_or_at}
use Rattle.course.specs.Course.{Run}
use Rattle.rows.specs.declared.row.Row.{Row}
use Rattle.editing.specs.declared.refusal.Refusal.{Refusal}
use Rattle.editing.specs.declared.refusal.Refusal.TheVariants.{NoSuchEntry, SlipUnfit}
use Rattle.editing.specs.declared.request.Edit.{Edit}
use Rattle.editing.specs.declared.request.Request.TheVariants as ask
use Rattle.editing.specs.declared.request.Answer.{Answer}
use Rattle.editing.specs.declared.request.Answer.TheVariants as answer
use Rattle.editing.specs.Drafts.{Labelling, label_in, Change}
use Rattle.editing.specs.Model.{Opening, rows_shown, Call, State, View, Effect, stays, drafts, commits, undoes, redoes, Response, given, latest, under, present, refuse, says, found, fits, settled, tried, size_of, counted, judge, decide, view, act, undone, redone, start, next, reply, after_from, after, replies}
use Rattle.editing.specs.Machine.{Kept, Desk, written, arrow_of, old_of, new_of, label_or, keep_one, keep, put_back, put_in, total, size_at, size_before, seen, perform, step, run, answers}
use Rattle.editing.specs.Law.{Exact, Opens, opened, asks, rows_in, NoneServes, turned_down, Upheld, RunLaw}
use Rattle.editing.proofs.Editing.{refused, edit_law}
use Rattle.editing.proofs.Histories.{Holding, Allowed, Drafted, NonEmpty, Takes, takes_back, start_holds, next_holds, next_allowed, row_label}
use Rattle.editing.proofs.Relabelling.{same_entries, relabelled, relabel_length, relabel_same, set_at}

module _ {L : Type 0} where
  twice : (f g : L → L) (o : Option L) → option_map f (option_map g o) ≡ option_map (λ x. f (g x)) o
  twice f g None = refl
  twice f g (Some x) = refl

  -- the new labels written are the commit's
  written_new : (base : List L) (t : List (Change L)) (xs : List L) (k : ℕ)
      → slice_get (written (map arrow_of (keep base t)) (map new_of (keep base t)) xs) k ≡ option_map (given k t) (slice_get xs k)
  written_new base [] xs k = sym (option_map_id (slice_get xs k))
  written_new base (x ∷ t) xs k =
      written_new base t (set xs x.arrow x.label) k ∙ ap (option_map (given k t)) (set_at xs x.arrow k x.label)
      ∙ twice (given k t) (λ y. cond (eqb k x.arrow) x.label y) (slice_get xs k)

  put_in_lem : (ls : Labelling L) (base : List L) (ts : List (List (Change L))) (t : List (Change L)) → put_in (keep base t) (under ls ts) ≡ under ls (t ∷ ts)
  put_in_lem ls base ts t =
      ap (λ (z : List L). record { arrows = z; constants = ls.constants })
      (same_entries (written (map arrow_of (keep base t)) (map new_of (keep base t)) (under ls ts).arrows) (under ls (t ∷ ts)).arrows
      (λ k. written_new base t (under ls ts).arrows k ∙ ap (option_map (given k t)) (relabelled (λ n x. latest n ts x) k ls.arrows) ∙ twice (given k t) (latest k ts) (slice_get ls.arrows k)
      ∙ sym (relabelled (λ n x. latest n (t ∷ ts) x) k ls.arrows)))

  -- the old labels put back are those before
  named : ℕ → List (Change L) → Bool
  named k [] = false
  named k (x ∷ t) = cond (eqb k x.arrow) true (named k t)

  given_none : (k : ℕ) (t : List (Change L)) (d : L) → named k t ≡ false → given k t d ≡ d
  unfolding named
  given_none k [] d h = refl
  given_none k (x ∷ t) d h = on (eqb k x.arrow) refl h (λ q. given_none k t d q)
    where
      on : (b : Bool) → eqb k x.arrow ≡ b → cond b true (named k t) ≡ false → (named k t ≡ false → given k t d ≡ d) → given k t (cond (eqb k x.arrow) x.label d) ≡ d
      on true e q ih = cc
      on false e q ih = ap (λ (b : Bool). given k t (cond b x.label d)) e ∙ ih q

  Alike : Option L → Option L → Type 0
  Alike None None = Unit {0}
  Alike None (Some y) = ⊥
  Alike (Some x) None = ⊥
  Alike (Some x) (Some y) = Unit {0}

  same_shape : (xs ys : List L) (k : ℕ) → length xs ≡ length ys → Alike (slice_get xs k) (slice_get ys k)
  unfolding Alike
  same_shape [] [] k h = tt
  same_shape [] (y ∷ ys) k h = absurd (omega arith)
  same_shape (x ∷ xs) [] k h = absurd (omega arith)
  same_shape (x ∷ xs) (y ∷ ys) zero h = tt
  same_shape (x ∷ xs) (y ∷ ys) (suc k) h = same_shape xs ys k (omega arith)

  put_old : (o m : Option L) (l : L) → Alike o m → option_map (λ y. label_or m l) o ≡ m
  unfolding Alike
  put_old None None l h = refl
  put_old None (Some y) l h = absurd h
  put_old (Some x) None l h = absurd h
  put_old (Some x) (Some y) l h = refl

  written_old : (base : List L) (t : List (Change L)) (xs : List L) → length xs ≡ length base → ((k : ℕ) → named k t ≡ false → slice_get xs k ≡ slice_get base k)
      → (k : ℕ) → slice_get (written (map arrow_of (keep base t)) (map old_of (keep base t)) xs) k ≡ slice_get base k
  unfolding named
  written_old base [] xs len h k = h k refl
  written_old base (x ∷ t) xs len h k =
      let v = label_or (slice_get base x.arrow) x.label in
      written_old base t (set xs x.arrow v) (length-set xs x.arrow v ∙ len) (λ j q. set_at xs x.arrow j v ∙ on j (eqb j x.arrow) refl q) k
    where
      on : (j : ℕ) (b : Bool) → eqb j x.arrow ≡ b → named j t ≡ false → option_map (λ y. cond (eqb j x.arrow) (label_or (slice_get base x.arrow) x.label) y) (slice_get xs j) ≡ slice_get base j
      on j true e q =
          let w : j ≡ x.arrow = eqb-true j x.arrow e in
          ap (λ (b : Bool). option_map (λ y. cond b (label_or (slice_get base x.arrow) x.label) y) (slice_get xs j)) e
          ∙ ap (λ (z : ℕ). option_map (λ y. label_or (slice_get base z) x.label) (slice_get xs j)) (sym w)
          ∙ put_old (slice_get xs j) (slice_get base j) x.label (same_shape xs base j len)
      on j false e q =
          ap (λ (b : Bool). option_map (λ y. cond b (label_or (slice_get base x.arrow) x.label) y) (slice_get xs j)) e
          ∙ option_map_id (slice_get xs j) ∙ h j (ap (λ (b : Bool). cond b true (named j t)) e ∙ q)

  put_back_lem : (ls : Labelling L) (ts : List (List (Change L))) (t : List (Change L)) → put_back (keep (under ls ts).arrows t) (under ls (t ∷ ts)) ≡ under ls ts
  put_back_lem ls ts t =
      ap (λ (z : List L). record { arrows = z; constants = ls.constants })
      (same_entries _ (under ls ts).arrows
      (written_old (under ls ts).arrows t (under ls (t ∷ ts)).arrows
      (relabel_length (λ n x. latest n (t ∷ ts) x) 0 ls.arrows ∙ sym (relabel_length (λ n x. latest n ts x) 0 ls.arrows))
      (λ k q. relabelled (λ n x. latest n (t ∷ ts) x) k ls.arrows ∙ unnamed k q (slice_get ls.arrows k) ∙ sym (relabelled (λ n x. latest n ts x) k ls.arrows))))
    where
      unnamed : (k : ℕ) → named k t ≡ false → (o : Option L) → option_map (λ x. given k t (latest k ts x)) o ≡ option_map (λ x. latest k ts x) o
      unnamed k q None = refl
      unnamed k q (Some x) = ap (λ (z : L). Some z) (given_none k t (latest k ts x) q)

  -- the history that standing and undone commits make
  unfoldable pub before : Labelling L → List (List (Change L)) → List (List (Kept L))
  before ls [] = []
  before ls (t ∷ ts) = before ls ts ++ (keep (under ls ts).arrows t ∷ [])

  unfoldable pub beyond : Labelling L → List (List (Change L)) → List (List (Change L)) → List (List (Kept L))
  beyond ls ts [] = []
  beyond ls ts (u ∷ us) = keep (under ls ts).arrows u ∷ beyond ls (u ∷ ts) us

  before_length : (ls : Labelling L) (ts : List (List (Change L))) → length (before ls ts) ≡ length ts
  unfolding before
  before_length ls [] = refl
  before_length ls (t ∷ ts) = let e = before_length ls ts in let a = length-append (before ls ts) (keep (under ls ts).arrows t ∷ []) in omega arith

  unfoldable pub machine_of : Opening L → State L → Desk L
  machine_of o st =
      record {
        is_open = true;
        number = o.number;
        ends = o.graph.arrows;
        course = o.course;
        rows = rows_shown o;
        labels = present o st;
        draft = st.draft;
        history = before o.labels st.standing ++ beyond o.labels st.standing st.undone;
        standing = length st.standing;
      }

  -- reading such a history
  size_at' : (ks rest : List (List (Kept L))) (k : List (Kept L)) (n : ℕ) → length ks ≡ n → size_at (ks ++ (k ∷ rest)) n ≡ Some (length k)
  size_at' [] rest k zero h = refl
  size_at' [] rest k (suc n) h = absurd (omega arith)
  size_at' (x ∷ ks) rest k zero h = absurd (omega arith)
  size_at' (x ∷ ks) rest k (suc n) h = size_at' ks rest k n (omega arith)

  size_end : (ks : List (List (Kept L))) (n : ℕ) → length ks ≡ n → size_at (ks ++ []) n ≡ None
  size_end [] n h = refl
  size_end (x ∷ ks) zero h = absurd (omega arith)
  size_end (x ∷ ks) (suc n) h = size_end ks n (omega arith)

  total_push : (ks : List (List (Kept L))) (k : List (Kept L)) → total (ks ++ (k ∷ [])) ≡ length k + total ks
  total_push [] k = omega arith
  total_push (x ∷ ks) k = let e = total_push ks k in omega arith

  before_total : (ls : Labelling L) (ts : List (List (Change L))) → total (before ls ts) ≡ counted ts
  unfolding before
  before_total ls [] = refl
  before_total ls (t ∷ ts) =
      let a = total_push (before ls ts) (keep (under ls ts).arrows t) in
      let b = length-map t (keep_one (under ls ts).arrows) in
      let e = before_total ls ts in
      omega arith

  last_size : (ls : Labelling L) (ts us : List (List (Change L))) → size_before (before ls ts ++ beyond ls ts us) (length ts) ≡ size_of ts
  unfolding before
  last_size ls [] us = refl
  last_size ls (t ∷ ts) us =
      ap (λ z. size_at z (length ts)) (append_assoc (before ls ts) (keep (under ls ts).arrows t ∷ []) (beyond ls (t ∷ ts) us))
      ∙ size_at' (before ls ts) (beyond ls (t ∷ ts) us) (keep (under ls ts).arrows t) (length ts) (before_length ls ts) ∙ ap (λ (n : ℕ). Some n) (length-map t (keep_one (under ls ts).arrows))

  next_size : (ls : Labelling L) (ts us : List (List (Change L))) → size_at (before ls ts ++ beyond ls ts us) (length ts) ≡ size_of us
  unfolding beyond
  next_size ls ts [] = size_end (before ls ts) (length ts) (before_length ls ts)
  next_size ls ts (u ∷ us) = size_at' (before ls ts) (beyond ls (u ∷ ts) us) (keep (under ls ts).arrows u) (length ts) (before_length ls ts) ∙ ap (λ (n : ℕ). Some n) (length-map u (keep_one (under ls ts).arrows))

  beyond_length : (ls : Labelling L) (ts us : List (List (Change L))) → length (beyond ls ts us) ≡ length us
  unfolding beyond
  beyond_length ls ts [] = refl
  beyond_length ls ts (u ∷ us) = ap suc (beyond_length ls (u ∷ ts) us)

  view_of : Opening L → State L → ℕ → ℕ → Option ℕ → Option ℕ → View L
  view_of o st used moved last after =
      record {
        is_open = true;
        number = o.number;
        ends = o.graph.arrows;
        course = o.course;
        rows = rows_shown o;
        labels = present o st;
        draft = st.draft;
        standing = length st.standing;
        used = used;
        undone = moved;
        last = last;
        next = after;
      }

  seen_is : (o : Opening L) (st : State L) → seen (machine_of o st) ≡ view o st
  unfolding machine_of view_of
  seen_is o st =
      let ts = st.standing in
      let us = st.undone in
      let old = before o.labels ts in
      let new = beyond o.labels ts us in
      let H = old ++ new in
      let n = length ts in
      ap (λ (z : ℕ). view_of o st z (length (drop n H)) (size_before H n) (size_at H n)) (ap total (take_at old new n (before_length o.labels ts)) ∙ before_total o.labels ts)
      ∙ ap (λ (z : ℕ). view_of o st (counted ts) z (size_before H n) (size_at H n)) (ap length (drop_at old new n (before_length o.labels ts)) ∙ beyond_length o.labels ts us)
      ∙ ap (λ (z : Option ℕ). view_of o st (counted ts) (length us) z (size_at H n)) (last_size o.labels ts us)
      ∙ ap (λ (z : Option ℕ). view_of o st (counted ts) (length us) (size_of ts) z) (next_size o.labels ts us)

  desk_of : Opening L → Labelling L → Option (List (Edit L)) → List (List (Kept L)) → ℕ → Desk L
  desk_of o ls d h n = record { is_open = true; number = o.number; ends = o.graph.arrows; course = o.course; rows = rows_shown o; labels = ls; draft = d; history = h; standing = n }

  desk_same : (o : Opening L) (ls ls' : Labelling L) (d : Option (List (Edit L))) (h h' : List (List (Kept L))) (n : ℕ) → ls ≡ ls' → h ≡ h' → desk_of o ls d h n ≡ desk_of o ls' d h' n
  desk_same o ls ls' d h h' n p q = ap (λ (z : Labelling L). desk_of o z d h n) p ∙ ap (λ (z : List (List (Kept L))). desk_of o ls' d z n) q

  commit_is : (o : Opening L) (st : State L) (t : List (Change L)) → perform (commits t) (machine_of o st) ≡ machine_of o (act (commits t) st)
  unfolding machine_of before beyond desk_of
  commit_is o st t =
      let ts = st.standing in
      let ls = o.labels in
      desk_same o (put_in (keep (under ls ts).arrows t) (under ls ts)) (under ls (t ∷ ts)) None
      (take (length ts) (before ls ts ++ beyond ls ts st.undone) ++ (keep (under ls ts).arrows t ∷ [])) ((before ls ts ++ (keep (under ls ts).arrows t ∷ [])) ++ []) (suc (length ts))
      (put_in_lem ls (under ls ts).arrows ts t)
      (ap (λ z. z ++ (keep (under ls ts).arrows t ∷ [])) (take_at (before ls ts) (beyond ls ts st.undone) (length ts) (before_length ls ts)) ∙ sym (append-nil (before ls ts ++ (keep (under ls ts).arrows t ∷ []))))

  undo_is : (o : Opening L) (d : Option (List (Edit L))) (ts us : List (List (Change L))) (t : List (Change L))
      → perform undoes (machine_of o (record { draft = d; standing = t ∷ ts; undone = us })) ≡ machine_of o (record { draft = d; standing = ts; undone = t ∷ us })
  unfolding machine_of before beyond desk_of
  undo_is o d ts us t =
      let ls = o.labels in
      let H = (before ls ts ++ (keep (under ls ts).arrows t ∷ [])) ++ beyond ls (t ∷ ts) us in
      let e : H ≡ before ls ts ++ (keep (under ls ts).arrows t ∷ beyond ls (t ∷ ts) us) = append_assoc (before ls ts) (keep (under ls ts).arrows t ∷ []) (beyond ls (t ∷ ts) us) in
      let g : get_or H (length ts) [] ≡ keep (under ls ts).arrows t = ap (λ z. get_or z (length ts) []) e ∙ get_or_at (before ls ts) (keep (under ls ts).arrows t) (beyond ls (t ∷ ts) us) [] (length ts) (before_length ls ts) in
      desk_same o (put_back (get_or H (length ts) []) (under ls (t ∷ ts))) (under ls ts) d H _ (length ts)
      (ap (λ (z : List (Kept L)). put_back z (under ls (t ∷ ts))) g ∙ put_back_lem ls ts t) e

  redo_is : (o : Opening L) (d : Option (List (Edit L))) (ts us : List (List (Change L))) (u : List (Change L))
      → perform redoes (machine_of o (record { draft = d; standing = ts; undone = u ∷ us })) ≡ machine_of o (record { draft = d; standing = u ∷ ts; undone = us })
  unfolding machine_of before beyond desk_of
  redo_is o d ts us u =
      let ls = o.labels in
      let H = before ls ts ++ (keep (under ls ts).arrows u ∷ beyond ls (u ∷ ts) us) in
      let g : get_or H (length ts) [] ≡ keep (under ls ts).arrows u = get_or_at (before ls ts) (keep (under ls ts).arrows u) (beyond ls (u ∷ ts) us) [] (length ts) (before_length ls ts) in
      desk_same o (put_in (get_or H (length ts) []) (under ls ts)) (under ls (u ∷ ts)) d H _ (suc (length ts))
      (ap (λ (z : List (Kept L)). put_in z (under ls ts)) g ∙ put_in_lem ls (under ls ts).arrows ts u) (sym (append_assoc (before ls ts) (keep (under ls ts).arrows u ∷ []) (beyond ls (u ∷ ts) us)))

  -- with a slip that fits, a call goes on with the draft's edits
  pub fitted : (d : Option (List (Edit L))) (n : ℕ) (f : List (Edit L) → Response L) (es : List (Edit L)) → d ≡ Some es → fits d (eqb n n) f ≡ f es
  fitted d n f es e =
      ap (λ (z : Option (List (Edit L))). fits z (eqb n n) f) e
      ∙ ap (λ (b : Bool). cond b (f es) (refuse SlipUnfit)) (eq-eqb n n refl)

-- what is exactly when a test passes, where the test is another's
through : (a b : Bool) (P : Type 0) → a ≡ b → (b ≡ true) ↔ P → (a ≡ true) ↔ P
through a b P e iff = (λ q. iff.0 (sym e ∙ q), λ p. e ∙ iff.1 p)

module _ {L V : Type 0} (alike : L → L → Bool) (meaning : L → V) (exact : Exact alike meaning) (o : Opening L) (opens : Opens alike o) where
  undo_case : (d : Option (List (Edit L))) (ts us : List (List (Change L))) → NonEmpty alike meaning exact o opens ts
      → perform undoes (machine_of o (record { draft = d; standing = ts; undone = us })) ≡ machine_of o (undone (record { draft = d; standing = ts; undone = us }) ts)
  unfolding NonEmpty
  undo_case d [] us h = absurd h
  undo_case d (t ∷ ts) us h = undo_is o d ts us t

  redo_case : (d : Option (List (Edit L))) (ts us : List (List (Change L))) → NonEmpty alike meaning exact o opens us
      → perform redoes (machine_of o (record { draft = d; standing = ts; undone = us })) ≡ machine_of o (redone (record { draft = d; standing = ts; undone = us }) us)
  unfolding NonEmpty
  redo_case d ts [] h = absurd h
  redo_case d ts (u ∷ us) h = redo_is o d ts us u

  -- an allowed effect on the machine is the model's
  perform_is : (st : State L) (e : Effect L) → Allowed alike meaning exact o opens st e → perform e (machine_of o st) ≡ machine_of o (act e st)
  unfolding Allowed machine_of
  perform_is st stays a = refl
  perform_is st (drafts d) a = refl
  perform_is st (commits t) a = commit_is o st t
  perform_is st undoes a = undo_case st.draft st.standing st.undone a
  perform_is st redoes a = redo_case st.draft st.standing st.undone a

  pub step_is : (st : State L) (call : Call L) → Holding alike meaning exact o opens st → step alike call (machine_of o st) ≡ (machine_of o (next alike o call st), reply alike o call st)
  step_is st call h =
      ap (λ (v : View L). (perform (decide alike v call).0 (machine_of o st), (decide alike v call).1)) (seen_is o st)
      ∙ ap (λ (d : Desk L). (d, reply alike o call st)) (perform_is st (decide alike (view o st) call).0 (next_allowed alike meaning exact o opens st h call))

  pub run_is : (calls : List (Call L)) (st : State L) → Holding alike meaning exact o opens st
      → (run alike calls (machine_of o st) ≡ machine_of o (after_from alike o calls st)) × (answers alike calls (machine_of o st) ≡ replies alike o calls st) × Holding alike meaning exact o opens (after_from alike o calls st)
  run_is [] st h = (refl, refl, h)
  run_is (call ∷ calls) st h =
      let e = step_is st call h in
      let d : (step alike call (machine_of o st)).0 ≡ machine_of o (next alike o call st) = ap (λ (z : Desk L × Answer L). z.0) e in
      let a : (step alike call (machine_of o st)).1 ≡ reply alike o call st = ap (λ (z : Desk L × Answer L). z.1) e in
      let r = run_is calls (next alike o call st) (next_holds alike meaning exact o opens st h call) in (
        ap (run alike calls) d ∙ r.0,
        ap (λ (z : Answer L). z ∷ answers alike calls (step alike call (machine_of o st)).0) a ∙ ap (λ (z : Desk L). reply alike o call st ∷ answers alike calls z) d ∙ ap (λ (z : List (Answer L)). reply alike o call st ∷ z) r.1,
        r.2,
      )

  pub start_is : opened o ≡ machine_of o start
  unfolding machine_of before beyond desk_of
  start_is = desk_same o o.labels (present o start) None [] [] 0 (ap (λ (xs : List L). record { arrows = xs; constants = o.labels.constants }) (sym (relabel_same 0 o.labels.arrows))) refl

  settled_says : (es : List (Edit L)) (v : Result ℕ Refusal) → turned_down (settled es v).1 ≡ refused v
  settled_says es (Ok n) = refl
  settled_says es (Err e) = refl

  tried_says : (v : Result ℕ Refusal) → turned_down (tried {L = L} v).1 ≡ refused v
  tried_says (Ok n) = refl
  tried_says (Err e) = refl

  -- what is answered in a state
  module _ (st : State L) (h : Holding alike meaning exact o opens st) where
    pub answer_is : (call : Call L) → (step alike call (machine_of o st)).1 ≡ reply alike o call st
    answer_is call = ap (λ (z : Desk L × Answer L). z.1) (step_is st call h)

    exactly : (es : List (Edit L)) → st.draft ≡ Some es →
        (refused (judge alike (view o st) es) ≡ true) ↔ NoneServes alike meaning o (present o st) es
    unfolding Holding Drafted Takes
    exactly es e =
        let d = subst (λ (z : Option (List (Edit L))). Drafted alike meaning exact o opens z st.standing) e h.2 in
        edit_law alike meaning exact (length st.standing) (counted st.standing) o (present o st) es (takes_back alike meaning exact o opens st.standing h.0) d.0

    trial_says : (es : List (Edit L)) → st.draft ≡ Some es →
        turned_down (step alike (asks o.number ask.Trial) (machine_of o st)).1 ≡ refused (judge alike (view o st) es)
    trial_says es e =
        ap turned_down (answer_is (asks o.number ask.Trial))
        ∙ ap (λ (z : Response L). turned_down z.1) (fitted st.draft o.number (λ x. tried (judge alike (view o st) x)) es e)
        ∙ tried_says (judge alike (view o st) es)

    commit_says : (es : List (Edit L)) → st.draft ≡ Some es →
        turned_down (step alike (asks o.number ask.Commit) (machine_of o st)).1 ≡ refused (judge alike (view o st) es)
    commit_says es e =
        ap turned_down (answer_is (asks o.number ask.Commit))
        ∙ ap (λ (z : Response L). turned_down z.1) (fitted st.draft o.number (λ x. settled x (judge alike (view o st) x)) es e)
        ∙ settled_says es (judge alike (view o st) es)

    pub row_says : (r : ℕ) (row : Row) → slice_get (rows_shown o) r ≡ Some row → (l : L) → label_in (present o st) row.origin ≡ Some l →
        (step alike (asks 0 (ask.Row r)) (machine_of o st)).1 ≡ answer.Row row l
    row_says r row e l q =
        let tell : Row → Response L = λ x. found (label_in (present o st) x.origin) NoSuchEntry (λ y. says (answer.Row x y)) in
        answer_is (asks 0 (ask.Row r))
        ∙ ap (λ (z : Option Row). (found z NoSuchEntry tell).1) e
        ∙ ap (λ (z : Option L). (found z NoSuchEntry (λ y. says (answer.Row row y))).1) q

  -- the law, where the calls lead
  upheld : (calls : List (Call L)) → Holding alike meaning exact o opens (after alike o calls) →
      Upheld alike meaning o calls (machine_of o (after alike o calls)) (replies alike o calls start)
  unfolding machine_of Holding Takes
  upheld calls h =
      let st = after alike o calls in
      let course = takes_back alike meaning exact o opens st.standing h.0 in
      record {
        labels = refl;
        course = course;
        rows = λ r row e.
            let e' = ap (λ (z : Run ℕ). slice_get (rows_in z) r) (sym course) ∙ e in
            let k = row_label alike meaning exact o opens st.standing r row e' in
            (k.0, k.1, row_says st h r row e' k.0 k.1);
        trial = λ es e. through _ _ _ (trial_says st h es e) (exactly st h es e);
        commit = λ es e. through _ _ _ (commit_says st h es e) (exactly st h es e);
        answers = refl;
      }

pub run_law_lem : {L V : Type 0} (alike : L → L → Bool) (meaning : L → V) → Exact alike meaning → RunLaw alike meaning
run_law_lem {L} {V} alike meaning exact o opens calls =
    let r = run_is alike meaning exact o opens calls start (start_holds alike meaning exact o opens) in
    let s = start_is alike meaning exact o opens in
    let d : run alike calls (opened o) ≡ machine_of o (after alike o calls) = ap (run alike calls) s ∙ r.0 in
    let a : answers alike calls (opened o) ≡ replies alike o calls start = ap (answers alike calls) s ∙ r.1 in
    let u = upheld alike meaning exact o opens calls r.2 in
    subst (λ (z : Desk L). Upheld alike meaning o calls z (answers alike calls (opened o))) (sym d)
    (subst (λ (z : List (Answer L)). Upheld alike meaning o calls (machine_of o (after alike o calls)) z) (sym a) u)
