-- Raw places read as forms, place by place. Assumes nothing.
use Rattle.std.proofs.Common.{◌≡◌, ℕ, zero, suc, ◌<◌, ◌≤◌, Bool, true, false, cond, List, [], ◌∷◌, map, length, get_or, Some, None, Option, Ok, sym, refl, ap, ◌∙◌, ⊎_elim}
use Rattle.std.proofs.lemmas.List.{get_or-map, get_or_past, length-map}
use Rattle.std.proofs.lemmas.Map.Entries.{option_filter}
use Rattle.std.proofs.lemmas.Bool.{cases_lt, both_ways}
use Rattle.expression.specs.declared.form.Form.{Form}
use Rattle.expression.specs.declared.form.Form.TheVariants.{Zero}
use Rattle.expression.specs.declared.raw.RawPlace.{RawPlace}
use Rattle.expression.specs.declared.refusal.Refusal.TheVariants.{IllFormed}
use Rattle.expression.specs.Raw.{read, or_zero}
use Rattle.expression.specs.Forms.{lower}
use Rattle.expression.specs.Admission.{table_read, lower_form, read_at, well_formed, lowest, formed}
use Rattle.expression.proofs.Lowest.{each_passes, each_told}

-- a place whose raw place is r
pub well_formed_by : (raw : List RawPlace) (k : ℕ) (r d : RawPlace) → k < length raw → r ≡ get_or raw k d → well_formed raw k ≡ lower_form k (read r)
well_formed_by raw k r d h is = ap (lower_form k) (get_or-map read raw k d None h ∙ ap read (sym is))

-- what is read of a place if its parts stand lower
pub read_some : (k : ℕ) (o : Option Form) (form : Form) → Some form ≡ option_filter (lower k) o → (lower_form k o ≡ true) × (form ≡ or_zero o)
read_some k None form h = absurd (cc)
read_some k (Some q) form h = by (lower k q) refl h
  where
    by : (b : Bool) → lower k q ≡ b → Some form ≡ cond b (Some q) None → (lower k q ≡ true) × (form ≡ q)
    by true e f = (e, cc)
    by false e f = absurd (cc)

pub read_none : (k : ℕ) (o : Option Form) → None ≡ option_filter (lower k) o → lower_form k o ≡ false
read_none k None h = refl
read_none k (Some q) h = by (lower k q) refl h
  where
    by : (b : Bool) → lower k q ≡ b → ◌≡◌ {A = Option Form} None (cond b (Some q) None) → lower k q ≡ false
    by true e f = absurd (cc)
    by false e f = e

form_at : (raw : List RawPlace) (k : ℕ) → get_or (table_read raw) k Zero ≡ or_zero (read_at raw k)
form_at [] k = refl
form_at (r ∷ raw) zero = refl
form_at (r ∷ raw) (suc k) = form_at raw k

lower_or_zero : (k : ℕ) (o : Option Form) → lower_form k o ≡ true → lower k (or_zero o) ≡ true
lower_or_zero k (Some form) h = h
lower_or_zero k None h = refl

-- a well-formed table's parts stand lower
pub read_lower : (raw : List RawPlace) → lowest (length raw) (well_formed raw) ≡ None → (k : ℕ) → lower k (get_or (table_read raw) k Zero) ≡ true
read_lower raw h k =
    ap (lower k) (form_at raw k)
    ∙ ⊎_elim
    (λ (l : k < length raw). lower_or_zero k (read_at raw k) (each_passes (well_formed raw) (length raw) h k l))
    (λ (l : length raw ≤ k).
    let past : length (map read raw) ≤ k = simp length-map l in
    ap (λ (o : Option Form). lower k (or_zero o)) (get_or_past (map read raw) k None past))
    (cases_lt k (length raw))

formed_is : (k : ℕ) (o : Option Form) → lower_form k o ≡ true → o ≡ Some (or_zero o)
formed_is k (Some form) h = refl
formed_is k None h = absurd (both_ways false refl h)

-- and each of its forms is the one that its raw place names
pub read_form : (raw : List RawPlace) → formed raw ≡ Ok tt → (k : ℕ) → k < length raw → read_at raw k ≡ Some (get_or (table_read raw) k Zero)
read_form raw h k l =
    formed_is k (read_at raw k) (each_told IllFormed (well_formed raw) (length raw) h k l) ∙ ap Some (sym (form_at raw k))
