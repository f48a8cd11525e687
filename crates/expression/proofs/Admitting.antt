-- What admission answers, by the check that fails first. Assumes nothing.
use Rattle.std.proofs.Common.{◌≡◌, ℕ, ◌≤◌, true, false, List, length, Some, None, Ok, Err, Option, Result, sym, refl, ap, ◌∙◌}
use Rattle.std.proofs.lemmas.Bool.{and_parts, leb-true, cond-true, cond-false}
use Rattle.expression.specs.declared.form.Form.{Form}
use Rattle.expression.specs.declared.raw.RawPlace.{RawPlace}
use Rattle.expression.specs.declared.refusal.Refusal.{Refusal}
use Rattle.expression.specs.declared.refusal.Refusal.TheVariants.{Size, IllFormed, NotPartOnce, OutOfRange, SetsUnfit}
use Rattle.expression.specs.Admission.{sized, table_read, formed, part_once, range_kept, sets_agree, lowest, told, refused_at, checked, admission}

pub sized_tells : (n c : ℕ) → sized n c ≡ true → (1 ≤ n) × (n ≤ 64) × (c ≤ 32)
sized_tells n c h =
    let p = and_parts _ _ h in
    let q = and_parts _ _ p.0 in
    (leb-true 1 n q.0, leb-true n 64 q.1, leb-true c 32 p.1)

refuses : (o : Option ℕ) (refusal : Refusal) (why : ℕ → Refusal) (next : Result (Unit {0}) Refusal) → told why o ≡ Err refusal → refused_at o why next ≡ Err refusal
refuses None refusal why next h = cc
refuses (Some p) refusal why next h = h

passes : (o : Option ℕ) (why : ℕ → Refusal) (next : Result (Unit {0}) Refusal) → told why o ≡ Ok tt → refused_at o why next ≡ next
passes None why next h = refl
passes (Some p) why next h = cc

module _ (raw : List RawPlace) (c : ℕ) where
  pub told_size : sized (length raw) c ≡ false → admission raw c ≡ Err Size
  unfolding admission
  told_size h = cond-false (sized (length raw) c) (checked raw (table_read raw) c) (Err Size) h

  opened : sized (length raw) c ≡ true → admission raw c ≡ checked raw (table_read raw) c
  unfolding admission
  opened h = cond-true (sized (length raw) c) (checked raw (table_read raw) c) (Err Size) h

  pub told_form : (r : Refusal) → sized (length raw) c ≡ true → formed raw ≡ Err r → admission raw c ≡ Err r
  told_form r s h = opened s ∙ refuses _ r IllFormed _ h

  -- from here on the table is read
  module _ (table : List Form) (is : table ≡ table_read raw) (s : sized (length raw) c ≡ true) (form : formed raw ≡ Ok tt) where
    after_form : admission raw c ≡ refused_at (lowest (length table) (part_once table)) NotPartOnce (refused_at (lowest (length table) (range_kept table c)) OutOfRange (refused_at (lowest (length table) (sets_agree table)) SetsUnfit (Ok tt)))
    after_form = opened s ∙ passes _ IllFormed _ form ∙ ap (λ (t : List Form). refused_at (lowest (length t) (part_once t)) NotPartOnce (refused_at (lowest (length t) (range_kept t c)) OutOfRange (refused_at (lowest (length t) (sets_agree t)) SetsUnfit (Ok tt)))) (sym is)

    pub told_use : (r : Refusal) → told NotPartOnce (lowest (length table) (part_once table)) ≡ Err r → admission raw c ≡ Err r
    told_use r h = after_form ∙ refuses _ r NotPartOnce _ h

    module _ (once : told NotPartOnce (lowest (length table) (part_once table)) ≡ Ok tt) where
      pub told_range : (r : Refusal) → told OutOfRange (lowest (length table) (range_kept table c)) ≡ Err r → admission raw c ≡ Err r
      told_range r h = after_form ∙ passes _ NotPartOnce _ once ∙ refuses _ r OutOfRange _ h

      module _ (ranged : told OutOfRange (lowest (length table) (range_kept table c)) ≡ Ok tt) where
        pub told_sets : (r : Refusal) → told SetsUnfit (lowest (length table) (sets_agree table)) ≡ Err r → admission raw c ≡ Err r
        told_sets r h = after_form ∙ passes _ NotPartOnce _ once ∙ passes _ OutOfRange _ ranged ∙ refuses _ r SetsUnfit _ h

        pub told_admitted : told SetsUnfit (lowest (length table) (sets_agree table)) ≡ Ok tt → admission raw c ≡ Ok tt
        told_admitted h = after_form ∙ passes _ NotPartOnce _ once ∙ passes _ OutOfRange _ ranged ∙ passes _ SetsUnfit _ h
