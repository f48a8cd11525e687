-- A commit of nothing, a taken commit, and undo with redo: what they leave. Assumes nothing.
use Rattle.std.proofs.Common.{◌≡◌, ℕ, Bool, cond, eqb, List, [], ◌∷◌, Some, None, Ok, Err, Option, Result, sym, refl, ap, ◌∙◌, subst}
use Rattle.std.specs.List.{slice_get}
use Rattle.std.specs.Option.{option_map}
use Rattle.std.proofs.lemmas.Iterator.Adapters.{option_map_id}
use Rattle.course.specs.declared.course.Origin.{Origin}
use Rattle.course.specs.declared.course.Origin.TheVariants.{Blank, Source, Constant}
use Rattle.walks.specs.Reach.{In}
use Rattle.editing.specs.declared.refusal.Refusal.{Refusal}
use Rattle.editing.specs.declared.refusal.Refusal.TheVariants.{NothingOpened}
use Rattle.editing.specs.declared.request.Edit.{Edit}
use Rattle.editing.specs.declared.request.Request.TheVariants as ask
use Rattle.editing.specs.declared.request.Answer.{Answer}
use Rattle.editing.specs.declared.request.Answer.TheVariants as answer
use Rattle.editing.specs.Drafts.{Labelling, label_in, is_source, Change, first, asked_or, put, changes}
use Rattle.editing.specs.Model.{Opening, Call, State, Response, commits, under, refuse, fits, settled, judge, decide, view, act, start, next, reply, after}
use Rattle.editing.specs.Machine.{Desk, seen, perform, step, run}
use Rattle.editing.specs.Law.{Exact, meant, Opens, opened, asks}
use Rattle.editing.specs.Editor.{row_read, Shown, Again, EmptyCommit, TakenCommit, UndoRedo, RedoUndo}
use Rattle.editing.proofs.Editing.{first_some, source_is, put_shows}
use Rattle.editing.proofs.Histories.{Holding, Drafted, Rowed, Takes, takes_back, start_holds, next_holds, row_label, committed, passed}
use Rattle.editing.proofs.Relabelling.{relabelled}
use Rattle.editing.proofs.Simulation.{machine_of, fitted, step_is, run_is, start_is, row_says}

module _ {L : Type 0} where
  -- a label that no edit names stays
  put_others : (es : List (Edit L)) (ls : Labelling L) (w : Origin) → ((e : Edit L) → In e es → e.origin ≡ w → ⊥) → label_in (put es ls) w ≡ label_in ls w
  put_others es ls Blank f = refl
  put_others es ls (Constant c) f = refl
  put_others es ls (Source k) f = relabelled (λ n x. asked_or (first (λ e. is_source n e.origin) es) x) k ls.arrows ∙ on (first (λ e. is_source k e.origin) es) refl
    where
      on : (d : Option (Edit L)) → first (λ e. is_source k e.origin) es ≡ d → option_map (λ x. asked_or (first (λ e. is_source k e.origin) es) x) (slice_get ls.arrows k) ≡ slice_get ls.arrows k
      on None h = ap (λ (z : Option (Edit L)). option_map (λ x. asked_or z x) (slice_get ls.arrows k)) h ∙ option_map_id (slice_get ls.arrows k)
      on (Some e) h = let q = first_some (λ d. is_source k d.origin) es e h in absurd (f e q.0 (source_is k e.origin q.1))

  -- a commit that names arrows is taken
  settled_ok : (es : List (Edit L)) (v : Result ℕ Refusal) (n : ℕ) → (settled es v).1 ≡ answer.Named n → v ≡ Ok n
  settled_ok es (Ok m) n h = let e : m ≡ n = cc in ap (λ (z : ℕ). Ok z) e
  settled_ok es (Err e) n h = cc

  module _ (alike : L → L → Bool) (o : Opening L) where
    -- undo, then redo, in the model
    undone_again : (st : State L) (n : ℕ) → reply alike o (asks 0 ask.Undo) st ≡ answer.Named n →
        (next alike o (asks 0 ask.Redo) (next alike o (asks 0 ask.Undo) st) ≡ st) × (reply alike o (asks 0 ask.Redo) (next alike o (asks 0 ask.Undo) st) ≡ answer.Named n)
    undone_again st n h = on st.draft st.standing st.undone h
      where
        on : (d : Option (List (Edit L))) (ts us : List (List (Change L))) →
            let s : State L = record { draft = d; standing = ts; undone = us } in
            reply alike o (asks 0 ask.Undo) s ≡ answer.Named n →
            (next alike o (asks 0 ask.Redo) (next alike o (asks 0 ask.Undo) s) ≡ s) × (reply alike o (asks 0 ask.Redo) (next alike o (asks 0 ask.Undo) s) ≡ answer.Named n)
        on None [] us q = cc
        on None (t ∷ ts) us q = (refl, q)
        on (Some es) ts us q = cc

    redone_again : (st : State L) (n : ℕ) → reply alike o (asks 0 ask.Redo) st ≡ answer.Named n →
        (next alike o (asks 0 ask.Undo) (next alike o (asks 0 ask.Redo) st) ≡ st) × (reply alike o (asks 0 ask.Undo) (next alike o (asks 0 ask.Redo) st) ≡ answer.Named n)
    redone_again st n h = on st.draft st.standing st.undone h
      where
        on : (d : Option (List (Edit L))) (ts us : List (List (Change L))) →
            let s : State L = record { draft = d; standing = ts; undone = us } in
            reply alike o (asks 0 ask.Redo) s ≡ answer.Named n →
            (next alike o (asks 0 ask.Undo) (next alike o (asks 0 ask.Redo) s) ≡ s) × (reply alike o (asks 0 ask.Undo) (next alike o (asks 0 ask.Redo) s) ≡ answer.Named n)
        on None ts [] q = cc
        on None ts (u ∷ us) q = (refl, q)
        on (Some es) ts us q = cc

module _ {L V : Type 0} (alike : L → L → Bool) (meaning : L → V) (exact : Exact alike meaning) where
  pub empty_commit : EmptyCommit alike meaning
  empty_commit d opened-now draft =
      let f : List (Edit L) → Response L = λ es. settled es (judge alike (seen d) es) in
      let e : decide alike (seen d) (asks d.number ask.Commit) ≡ f [] =
      ap (λ (b : Bool). cond b (fits d.draft (eqb d.number d.number) f) (refuse NothingOpened)) opened-now ∙ fitted d.draft d.number f [] draft in (
        ap (λ (z : Response L). z.1) e,
        record {
          labels = ap (λ (z : Response L). (perform z.0 d).labels) e;
          history = ap (λ (z : Response L). (perform z.0 d).history) e;
          standing = ap (λ (z : Response L). (perform z.0 d).standing) e;
          rows = λ r. ap (λ (z : Response L). row_read alike r (perform z.0 d)) e;
        },
      )

  module _ (o : Opening L) (opens : Opens alike o) where
    abbrev Held : State L → Type 0
    Held st = Holding alike meaning exact o opens st

    module _ (st : State L) (h : Held st) (es : List (Edit L)) (draft : st.draft ≡ Some es) (n : ℕ) (ok : judge alike (view o st) es ≡ Ok n) where
      taken : State L
      taken = act (commits (changes es)) st

      decided : decide alike (view o st) (asks o.number ask.Commit) ≡ (commits (changes es), answer.Named n)
      decided = fitted st.draft o.number (λ x. settled x (judge alike (view o st) x)) es draft ∙ ap (settled es) ok

      holds : Held taken
      unfolding taken
      holds = subst (λ (z : Response L). Held (act z.0 st)) decided (next_holds alike meaning exact o opens st h (asks o.number ask.Commit))

      desk_after : (step alike (asks o.number ask.Commit) (machine_of o st)).0 ≡ machine_of o taken
      unfolding taken
      desk_after =
          ap (λ (z : Desk L × Answer L). z.0) (step_is alike meaning exact o opens st (asks o.number ask.Commit) h)
          ∙ ap (λ (z : Response L). machine_of o (act z.0 st)) decided

      shown : Shown alike meaning es (machine_of o st) (machine_of o taken)
      unfolding taken machine_of Holding Drafted Rowed Takes
      shown =
          let ts = st.standing in
          let ls = under o.labels ts in
          let d = subst (λ (z : Option (List (Edit L))). Drafted alike meaning exact o opens z ts) draft h.2 in
          let p = passed alike _ _ o.course.comparisons ls es n ok in
          record {
            asked = λ e i.
                let w = d.1 e i in
                let k = row_label alike meaning exact o opens (changes es ∷ ts) e.row w.0 w.1 in
                let m : Some (meaning k.0) ≡ Some (meaning e.asked) =
                sym (ap (meant meaning) k.1) ∙ ap (λ (z : Origin). meant meaning (label_in (under o.labels (changes es ∷ ts)) z)) w.2
                ∙ ap (meant meaning) (committed o.labels ts es e.origin)
                ∙ put_shows alike meaning exact o ls es (takes_back alike meaning exact o opens ts h.0) d.0 p.no_constant p.no_clash e i in
                (w.0, k.0, row_says alike meaning exact o opens taken holds e.row w.0 w.1 k.0 k.1, cc);
            others = λ r row e f.
                let k = row_label alike meaning exact o opens ts r row e in
                row_says alike meaning exact o opens taken holds r row e k.0 (committed o.labels ts es row.origin ∙ put_others es ls row.origin f ∙ k.1)
                ∙ sym (row_says alike meaning exact o opens st h r row e k.0 k.1);
          }

    taken_at : (st : State L) → Held st → (es : List (Edit L)) (n : ℕ) → (machine_of o st).draft ≡ Some es →
        (step alike (asks o.number ask.Commit) (machine_of o st)).1 ≡ answer.Named n →
        Shown alike meaning es (machine_of o st) (step alike (asks o.number ask.Commit) (machine_of o st)).0
    unfolding machine_of
    taken_at st h es n draft named =
        let call = asks o.number ask.Commit in
        let e : reply alike o call st ≡ answer.Named n = sym (ap (λ (z : Desk L × Answer L). z.1) (step_is alike meaning exact o opens st call h)) ∙ named in
        let f = fitted st.draft o.number (λ x. settled x (judge alike (view o st) x)) es draft in
        let ok = settled_ok es (judge alike (view o st) es) n (sym (ap (λ (z : Response L). z.1) f) ∙ e) in
        subst (λ (z : Desk L). Shown alike meaning es (machine_of o st) z) (sym (desk_after st h es draft n ok)) (shown st h es draft n ok)

    again : (st : State L) → Held st → (call back : Call L) (n : ℕ) →
        (reply alike o call st ≡ answer.Named n → (next alike o back (next alike o call st) ≡ st) × (reply alike o back (next alike o call st) ≡ answer.Named n)) →
        (step alike call (machine_of o st)).1 ≡ answer.Named n → Again (machine_of o st) n (step alike back (step alike call (machine_of o st)).0)
    again st h call back n f named =
        let there = step_is alike meaning exact o opens st call h in
        let home = step_is alike meaning exact o opens (next alike o call st) back (next_holds alike meaning exact o opens st h call) in
        let k = f (sym (ap (λ (z : Desk L × Answer L). z.1) there) ∙ named) in
        let e = ap (λ (z : Desk L × Answer L). step alike back z.0) there ∙ home in
        record {
          answer = ap (λ (z : Desk L × Answer L). z.1) e ∙ k.1;
          desk = ap (λ (z : Desk L × Answer L). z.0) e ∙ ap (machine_of o) k.0;
        }

    reached : (calls : List (Call L)) → (run alike calls (opened o) ≡ machine_of o (after alike o calls)) × Held (after alike o calls)
    reached calls =
        let r = run_is alike meaning exact o opens calls start (start_holds alike meaning exact o opens) in
        (ap (run alike calls) (start_is alike meaning exact o opens) ∙ r.0, r.2)

  pub taken_commit : TakenCommit alike meaning
  taken_commit o opens calls es n =
      let r = reached o opens calls in
      subst (λ (z : Desk L). z.draft ≡ Some es → (step alike (asks o.number ask.Commit) z).1 ≡ answer.Named n → Shown alike meaning es z (step alike (asks o.number ask.Commit) z).0)
      (sym r.0) (taken_at o opens (after alike o calls) r.1 es n)

  module _ (o : Opening L) (opens : Opens alike o) (calls : List (Call L)) (n : ℕ) where
    both_again : (call back : Call L) →
        ((st : State L) → reply alike o call st ≡ answer.Named n → (next alike o back (next alike o call st) ≡ st) × (reply alike o back (next alike o call st) ≡ answer.Named n)) →
        (step alike call (run alike calls (opened o))).1 ≡ answer.Named n → Again (run alike calls (opened o)) n (step alike back (step alike call (run alike calls (opened o))).0)
    both_again call back f =
        let r = reached o opens calls in
        subst (λ (z : Desk L). (step alike call z).1 ≡ answer.Named n → Again z n (step alike back (step alike call z).0))
        (sym r.0) (again o opens (after alike o calls) r.1 call back n (f (after alike o calls)))

  pub undo_redo : UndoRedo alike meaning
  undo_redo o opens calls n = both_again o opens calls n (asks 0 ask.Undo) (asks 0 ask.Redo) (λ st. undone_again alike o st n)

  pub redo_undo : RedoUndo alike meaning
  redo_undo o opens calls n = both_again o opens calls n (asks 0 ask.Redo) (asks 0 ask.Undo) (λ st. redone_again alike o st n)
