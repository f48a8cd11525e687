-- Every row of a finished run has a label. Assumes nothing.
use Rattle.std.proofs.Common.{◌≡◌, ℕ, Bool, true, false, List, length, Some, filter, ap, ◌∙◌, arith}
use Rattle.std.specs.List.{slice_get}
use Rattle.std.proofs.lemmas.Bool.{and_parts, not-true}
use Rattle.course.specs.declared.course.Arrow.{Arrow}
use Rattle.course.specs.declared.course.Origin.{Origin}
use Rattle.course.specs.declared.course.Origin.TheVariants.{Blank, Source, Constant}
use Rattle.course.specs.Course.{is_blank_origin}
use Rattle.walks.specs.Reach.{among}
use Rattle.laws.specs.Every.{Every}
use Rattle.laws.specs.Bounds.{Known, Labelled, ArrowIn}
use Rattle.laws.proofs.Bounded.{bounds}
use Rattle.laws.proofs.Everies.{every_to, every_in, every_joined, every_map}
use Rattle.rows.specs.declared.row.Row.{Row}
use Rattle.rows.specs.Rows.{near, leads, row_of, rows_at, shown, rows_of}
use Rattle.editing.specs.Drafts.{Labelling, label_in, compare_by}
use Rattle.editing.specs.Model.{Opening, rows_shown}
use Rattle.editing.specs.Law.{Opens}
use Rattle.editing.proofs.Relabelling.{nth_in, nth_there, every_kept}

module _ (s n : ℕ) where
  labelled : (o : Origin) → Known s n o → is_blank_origin o ≡ false → Labelled s n o
  labelled Blank k h = cc
  labelled (Source i) k h = k
  labelled (Constant i) k h = k

  rows_at_lem : (arrows : List Arrow) → Every (λ (a : Arrow). Known s n a.origin) arrows → (u : ℕ) → Every (λ (r : Row). Labelled s n r.origin) (rows_at arrows u)
  unfolding rows_at
  rows_at_lem arrows h u =
      let all = every_kept (λ (a : Arrow). Known s n a.origin) (leads (near arrows u)) arrows h in
      every_map (λ (r : Row). Labelled s n r.origin) (row_of u) (filter (leads (near arrows u)) arrows)
      (λ a i.
      let k = every_in (λ (x : Arrow). Known s n x.origin × (leads (near arrows u) x ≡ true)) (filter (leads (near arrows u)) arrows) a all i in
      labelled a.origin k.0 (not-true _ (and_parts _ (among a.tail (near arrows u)) k.1).0))

  rows_labelled : (arrows : List Arrow) → Every (λ (a : Arrow). Known s n a.origin) arrows → (m root : ℕ) → Every (λ (r : Row). Labelled s n r.origin) (rows_of arrows m root)
  rows_labelled arrows h m root = every_joined (λ (r : Row). Labelled s n r.origin) (rows_at arrows) (shown arrows m root) (λ u i. rows_at_lem arrows h u)

-- an origin that has a label in one labelling has one in every labelling of its size
label_there : {L : Type 0} (ls : Labelling L) (s n : ℕ) → length ls.arrows ≡ s → length ls.constants ≡ n → (o : Origin) → Labelled s n o → (l : L) × (label_in ls o ≡ Some l)
label_there ls s n a b Blank h = absurd h
label_there ls s n a b (Source i) h = nth_there ls.arrows i (omega arith)
label_there ls s n a b (Constant i) h = nth_there ls.constants i (omega arith)

-- a row's label under a labelling of the opening's size
pub row_labelled : {L : Type 0} (alike : L → L → Bool) (o : Opening L) → Opens alike o → (ls : Labelling L) → length ls.arrows ≡ length o.labels.arrows → ls.constants ≡ o.labels.constants →
    (r : ℕ) (row : Row) → slice_get (rows_shown o) r ≡ Some row → (l : L) × (label_in ls row.origin ≡ Some l)
row_labelled alike o opens ls size fixed r row h =
    let n = length o.labels.constants in
    let c = (bounds (compare_by alike o.labels) o.graph n o.tree o.node o.course opens.sound opens.rules opens.run).course in
    let known = every_to (ArrowIn (length o.graph.arrows) n o.course) (λ (a : Arrow). Known (length o.graph.arrows) n a.origin) (λ a q. q.origin) o.course.arrows c.arrows in
    let all = rows_labelled (length o.graph.arrows) n o.course.arrows known (length o.course.nodes) o.node in
    label_there ls (length o.graph.arrows) n (size ∙ opens.labels) (ap length fixed) row.origin
    (every_in (λ (x : Row). Labelled (length o.graph.arrows) n x.origin) (rows_shown o) row all (nth_in (rows_shown o) r row h))
