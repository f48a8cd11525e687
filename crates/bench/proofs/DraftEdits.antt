-- Edits stored as rows and labels: one removed, replaced or put in. Assumes nothing.
use Rattle.std.proofs.Common.{◌≡◌, ℕ, zero, suc, ◌+◌, ◌-◌, ◌<◌, ◌≤◌, true, false, cond, not, ◌&&◌, eqb, ltb, leb, List, [], ◌∷◌, ◌++◌, length, get_or, take, drop, set, Ok, Err, sym, refl, ap, ◌∙◌, arith}
use Rattle.std.specs.List.{insert as list_insert, remove as list_remove}
use Rattle.std.proofs.lemmas.Bool.{eq-eqb, ne_eqb, le-ltb, lt-ltb, cond-true, cond-false, lt-leb}
use Rattle.std.proofs.Math.Seq.{take-set-lt}
use Rattle.std.proofs.lemmas.List.{length-take}
use Rattle.arrayvec.specs.ArrayVec.{array_vec_len}
use Rattle.rows.specs.declared.row.Row.{Row}
use Rattle.editing.specs.declared.refusal.Refusal.TheVariants.{FullDraft}
use Rattle.editing.specs.Model.{insert, remove, edited}
use Rattle.bench.specs.declared.draft.Draft.{Draft}
use Rattle.bench.specs.Edits.{edit_for, paired_edits, edits_of, room_for}
use Rattle.bench.specs.Places.{Stands, Missing}

-- an edit of a lower row is passed over
pass : {A : Type 0} (r x : ℕ) (p q s : A) → x < r → cond (ltb r x) p (cond (eqb r x) q s) ≡ s
pass r x p q s h = cond-false _ _ _ (le-ltb r x (omega arith)) ∙ cond-false _ _ _ (ne_eqb r x (omega arith))

meet : {A : Type 0} (r x : ℕ) (p q s : A) → x ≡ r → cond (ltb r x) p (cond (eqb r x) q s) ≡ q
meet r x p q s h = cond-false _ _ _ (le-ltb r x (omega arith)) ∙ cond-true _ _ _ (eq-eqb r x (sym h))

stop : {A : Type 0} (r x : ℕ) (p q s : A) → r < x → cond (ltb r x) p (cond (eqb r x) q s) ≡ p
stop r x p q s h = cond-true _ _ _ (lt-ltb r x h)

lower : (r x : ℕ) (rs : List ℕ) (at : ℕ) → ((k : ℕ) → k < suc at → get_or (x ∷ rs) k 0 < r) → (k : ℕ) → k < at → get_or rs k 0 < r
lower r x rs at b k h = b (suc k) (omega arith)

paired_length : {L : Type 0} (rows : List Row) (n : ℕ) (rs : List ℕ) (ls : List L) → length rs ≡ n → length ls ≡ n → length (paired_edits rows rs ls) ≡ n
paired_length rows n [] ls h k = h
paired_length rows n (r ∷ rs) [] h k = k
paired_length rows zero (r ∷ rs) (l ∷ ls) h k = absurd (omega arith)
paired_length rows (suc n) (r ∷ rs) (l ∷ ls) h k = ap suc (paired_length rows n rs ls (omega arith) (omega arith))

module _ {L : Type 0} (rows : List Row) (r : ℕ) where
  -- the row has an edit there
  edited_there : (rs : List ℕ) (ls : List L) (at : ℕ) → length ls ≡ length rs → at < length rs → ((k : ℕ) → k < at → get_or rs k 0 < r) → get_or rs at 0 ≡ r → edited r (paired_edits rows rs ls) ≡ true
  edited_there [] ls at e h b f = absurd (omega arith)
  edited_there (x ∷ rs) [] at e h b f = absurd (omega arith)
  edited_there (x ∷ rs) (l ∷ ls) zero e h b f = meet r x false true _ f
  edited_there (x ∷ rs) (l ∷ ls) (suc at) e h b f = pass r x false true _ (b 0 (omega arith)) ∙ edited_there rs ls at (omega arith) (omega arith) (lower r x rs at b) f

  removed_there : (rs : List ℕ) (ls : List L) (at : ℕ) → length ls ≡ length rs → at < length rs → ((k : ℕ) → k < at → get_or rs k 0 < r) → get_or rs at 0 ≡ r
      → paired_edits rows (take at rs ++ drop (suc at) rs) (take at ls ++ drop (suc at) ls) ≡ remove r (paired_edits rows rs ls)
  removed_there [] ls at e h b f = absurd (omega arith)
  removed_there (x ∷ rs) [] at e h b f = absurd (omega arith)
  removed_there (x ∷ rs) (l ∷ ls) zero e h b f = sym (meet r x _ _ _ f)
  removed_there (x ∷ rs) (l ∷ ls) (suc at) e h b f =
      ap (λ z. edit_for rows x l ∷ z) (removed_there rs ls at (omega arith) (omega arith) (lower r x rs at b) f) ∙ sym (pass r x _ _ _ (b 0 (omega arith)))

  replaced_there : (l' : L) (rs : List ℕ) (ls : List L) (at : ℕ) → length ls ≡ length rs → at < length rs → ((k : ℕ) → k < at → get_or rs k 0 < r) → get_or rs at 0 ≡ r
      → paired_edits rows rs (set ls at l') ≡ insert (edit_for rows r l') (paired_edits rows rs ls)
  replaced_there l' [] ls at e h b f = absurd (omega arith)
  replaced_there l' (x ∷ rs) [] at e h b f = absurd (omega arith)
  replaced_there l' (x ∷ rs) (l ∷ ls) zero e h b f =
      ap (λ (z : ℕ). edit_for rows z l' ∷ paired_edits rows rs ls) f ∙ sym (meet r x _ _ _ f)
  replaced_there l' (x ∷ rs) (l ∷ ls) (suc at) e h b f =
      ap (λ z. edit_for rows x l ∷ z) (replaced_there l' rs ls at (omega arith) (omega arith) (lower r x rs at b) f) ∙ sym (pass r x _ _ _ (b 0 (omega arith)))

  -- it has none
  edited_not : (rs : List ℕ) (ls : List L) (at : ℕ) → length ls ≡ length rs → at ≤ length rs → ((k : ℕ) → k < at → get_or rs k 0 < r) → (at < length rs → r < get_or rs at 0) → edited r (paired_edits rows rs ls) ≡ false
  edited_not [] ls at e h b f = refl
  edited_not (x ∷ rs) [] at e h b f = refl
  edited_not (x ∷ rs) (l ∷ ls) zero e h b f = stop r x false true _ (f (omega arith))
  edited_not (x ∷ rs) (l ∷ ls) (suc at) e h b f = pass r x false true _ (b 0 (omega arith)) ∙ edited_not rs ls at (omega arith) (omega arith) (lower r x rs at b) (λ k. f (omega arith))

  removed_not : (rs : List ℕ) (ls : List L) (at : ℕ) → length ls ≡ length rs → at ≤ length rs → ((k : ℕ) → k < at → get_or rs k 0 < r) → (at < length rs → r < get_or rs at 0) → paired_edits rows rs ls ≡ remove r (paired_edits rows rs ls)
  removed_not [] ls at e h b f = refl
  removed_not (x ∷ rs) [] at e h b f = refl
  removed_not (x ∷ rs) (l ∷ ls) zero e h b f = sym (stop r x _ _ _ (f (omega arith)))
  removed_not (x ∷ rs) (l ∷ ls) (suc at) e h b f =
      ap (λ z. edit_for rows x l ∷ z) (removed_not rs ls at (omega arith) (omega arith) (lower r x rs at b) (λ k. f (omega arith))) ∙ sym (pass r x _ _ _ (b 0 (omega arith)))

  inserted : (l' : L) (rs : List ℕ) (ls : List L) (at : ℕ) → length ls ≡ length rs → at ≤ length rs → ((k : ℕ) → k < at → get_or rs k 0 < r) → (at < length rs → r < get_or rs at 0)
      → paired_edits rows (take at rs ++ (r ∷ drop at rs)) (take at ls ++ (l' ∷ drop at ls)) ≡ insert (edit_for rows r l') (paired_edits rows rs ls)
  inserted l' [] [] zero e h b f = refl
  inserted l' [] [] (suc at) e h b f = absurd (omega arith)
  inserted l' [] (l ∷ ls) at e h b f = absurd (omega arith)
  inserted l' (x ∷ rs) [] at e h b f = absurd (omega arith)
  inserted l' (x ∷ rs) (l ∷ ls) zero e h b f = sym (stop r x _ _ _ (f (omega arith)))
  inserted l' (x ∷ rs) (l ∷ ls) (suc at) e h b f =
      ap (λ z. edit_for rows x l ∷ z) (inserted l' rs ls at (omega arith) (omega arith) (lower r x rs at b) (λ k. f (omega arith))) ∙ sym (pass r x _ _ _ (b 0 (omega arith)))

-- only as many labels count as there are rows
paired_front : {L : Type 0} (rows : List Row) (rs : List ℕ) (ls : List L) → paired_edits rows rs (take (length rs) ls) ≡ paired_edits rows rs ls
paired_front rows [] ls = refl
paired_front rows (r ∷ rs) [] = refl
paired_front rows (r ∷ rs) (l ∷ ls) = ap (λ z. edit_for rows r l ∷ z) (paired_front rows rs ls)

-- the edits of a draft after each outcome of a search for its row
module _ {L : Type 0} (rows : List Row) (d : Draft) (ls : List L) (long : 32 ≤ length ls) where
  abbrev rs : List ℕ
  rs = d.rows.items

  abbrev first : List L
  first = take (length rs) ls

  A : length first ≡ length rs
  A = let f = d.few in simp length-take (omega arith)

  front : edits_of rows d ls ≡ paired_edits rows rs first
  front = sym (paired_front rows rs ls)

  pub edits_length : length (edits_of rows d ls) ≡ array_vec_len d.rows
  edits_length = ap length front ∙ paired_length rows (length rs) rs first refl A

  module _ (r at : ℕ) (s : Stands d.rows.items r at) where
    pub has : edited r (edits_of rows d ls) ≡ true
    has = ap (edited r) front ∙ edited_there rows r rs first at A s.within s.below s.here

    pub has_room : Ok tt ≡ room_for r (edits_of rows d ls)
    has_room = sym (cond-false _ _ _ (ap (λ z. not z && leb 32 (length (edits_of rows d ls))) has))

    pub replaced : (l : L) → edits_of rows d (set ls at l) ≡ insert (edit_for rows r l) (edits_of rows d ls)
    replaced l =
        sym (paired_front rows rs (set ls at l)) ∙ ap (paired_edits rows rs) (take-set-lt (length rs) ls at l s.within)
        ∙ replaced_there rows r l rs first at A s.within s.below s.here ∙ ap (insert (edit_for rows r l)) (sym front)

    pub gone : (rs' : List ℕ) (ls' : List L) → length rs' + 1 ≡ array_vec_len d.rows → rs' ≡ list_remove d.rows.items at → take (array_vec_len d.rows - 1) ls' ≡ list_remove (take (array_vec_len d.rows) ls) at
        → paired_edits rows rs' ls' ≡ remove r (edits_of rows d ls)
    gone rs' ls' n p q =
        let less : length rs' ≡ length rs - 1 = omega arith in
        sym (paired_front rows rs' ls') ∙ ap (λ (k : ℕ). paired_edits rows rs' (take k ls')) less
        ∙ rw (p, q) (removed_there rows r rs first at A s.within s.below s.here) ∙ ap (remove r) (sym front)

  module _ (r at : ℕ) (m : Missing d.rows.items r at) where
    pub has_none : edited r (edits_of rows d ls) ≡ false
    has_none = ap (edited r) front ∙ edited_not rows r rs first at A m.within m.below m.above

    pub no_room : array_vec_len d.rows ≡ 32 → Err FullDraft ≡ room_for r (edits_of rows d ls)
    no_room h =
        sym (cond-true _ _ _ (ap (λ z. not z && leb 32 (length (edits_of rows d ls))) has_none ∙ ap (leb 32) (edits_length ∙ h)))

    pub has_place : array_vec_len d.rows < 32 → Ok tt ≡ room_for r (edits_of rows d ls)
    has_place h =
        sym (cond-false _ _ _ (ap (λ z. not z && leb 32 (length (edits_of rows d ls))) has_none ∙ ap (leb 32) edits_length ∙ lt-leb 32 (array_vec_len d.rows) h))

    pub same_edits : edits_of rows d ls ≡ remove r (edits_of rows d ls)
    same_edits = front ∙ removed_not rows r rs first at A m.within m.below m.above ∙ ap (remove r) (sym front)

    pub more : (l : L) (rs' : List ℕ) (ls' : List L) → length rs' ≡ array_vec_len d.rows + 1 → rs' ≡ list_insert d.rows.items at r → take (array_vec_len d.rows + 1) ls' ≡ list_insert (take (array_vec_len d.rows) ls) at l
        → paired_edits rows rs' ls' ≡ insert (edit_for rows r l) (edits_of rows d ls)
    more l rs' ls' n p q =
        sym (paired_front rows rs' ls') ∙ ap (λ (k : ℕ). paired_edits rows rs' (take k ls')) n
        ∙ rw (p, q) (inserted rows r l rs first at A m.within m.below m.above) ∙ ap (insert (edit_for rows r l)) (sym front)
