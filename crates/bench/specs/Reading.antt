-- The bench with its tables, as the machine's state, and the calls' answers as the machine's. Assumes nothing.
--
--   Lists L              what four tables hold: labels, constants, asked, history. A bench is read with any four tables
--   lists_of t           what the tables t hold
--   ends_of s            the arrows of the source; none where nothing is opened
--   rows_of b            the rows that the bench holds
--   draft_of rows o ls   the draft: the edits of the draft o, if one is open, with the labels ls of the table
--   kept_of              changes by their arrows, old labels and new labels
--   commit_at i n ..     a commit of n changes from change i on: its old labels stand in the history table from i on, its new
--                        ones from 256 + i on
--   commits_of i ns .. the commits of the sizes ns from change i on
--   history_of h hs      the commits of the history h with the labels hs of the table
--   labels_of b t        the labelling: as many labels as the source has arrows, and as many constants as were opened with
--   desk b t             the machine's state that the bench and its tables stand for
--   short b t            whether a table is shorter than the bench needs
--   ready s o            the first checks of a call: a table is too short, nothing is opened
--   admitted r f o       the first checks of a call with a slip: r says whether it is ready, f whether the slip's number is the
--                        bench's, and o whether a draft is open
--   handed s n r         the call with the request r and a slip of number n, where s tells that a table is too short
--   Steps alike n r b t b' t' a   the bench b with the tables t, handed the request r and a slip of number n, becomes b' with t'
--                        and answers a, as the machine does
--   Reads alike r b t a  the same of a request that takes no slip and changes nothing
--   begun, told          what begin answers, what mark answers
--   said f r             what a reading answers, where f tells what was read
--   paired x l           x and the label l, if there is one
--   row_shown ls w       the row w, if there is one, with its label
--   arrow_shown a l      the source arrow a, if there is one, with the label l
--   dropped              what abandon answers
use Rattle.std.specs.Prelude.{◌≡◌, ℕ, ◌+◌, Bool, cond, ◌&&◌, ◌||◌, List, [], ◌∷◌, length, take, drop, Some, None, Ok, Err, vec_items, Option, Result, nat_lt, is_some}
use Rattle.std.specs.Option.{option_map}
use Rattle.course.specs.declared.source.Source.{Source}
use Rattle.course.specs.Sources.{graph_of}
use Rattle.course.specs.View.{course_of}
use Rattle.rows.specs.declared.row.Row.{Row}
use Rattle.editing.specs.declared.refusal.Refusal.{Refusal}
use Rattle.editing.specs.declared.refusal.Refusal.TheVariants.{ShortTable, NothingOpened, SlipUnfit}
use Rattle.editing.specs.declared.request.Edit.{Edit}
use Rattle.editing.specs.declared.request.Request.{Request}
use Rattle.editing.specs.declared.request.Answer.{Answer}
use Rattle.editing.specs.declared.request.Answer.TheVariants as answer
use Rattle.editing.specs.Drafts.{Labelling, label_in}
use Rattle.editing.specs.Model.{Call}
use Rattle.editing.specs.Machine.{Kept, Desk, step}
use Rattle.bench.specs.declared.bench.Bench.{Bench}
use Rattle.bench.specs.declared.bench.Slip.{Slip}
use Rattle.bench.specs.declared.draft.Draft.{Draft}
use Rattle.bench.specs.declared.drafting.Returned.{Returned}
use Rattle.bench.specs.declared.history.History.{History}
use Rattle.bench.specs.declared.tables.Tables.{Tables}
use Rattle.bench.specs.Edits.{edits_of}

abbrev pub ends_of : Option Source → List (ℕ × ℕ)
ends_of None = []
ends_of (Some s) = (graph_of s).arrows

abbrev pub rows_of : Bench → List Row
rows_of b = vec_items b.rows.rows

pub record Lists (L : Type 0) : Type 0 where
  pub labels : List L
  pub constants : List L
  pub asked : List L
  pub history : List L

module _ {L : Type 0} where
  abbrev pub lists_of : Tables L → Lists L
  lists_of t = record { labels = t.labels.now; constants = t.constants.now; asked = t.asked.now; history = t.history.now }

  abbrev pub draft_of : List Row → Option Draft → List L → Option (List (Edit L))
  draft_of rows o ls = option_map (λ d. edits_of rows d ls) o

  abbrev pub kept_of : List ℕ → List L → List L → List (Kept L)
  kept_of [] olds news = []
  kept_of (a ∷ arrows) [] news = []
  kept_of (a ∷ arrows) (o ∷ olds) [] = []
  kept_of (a ∷ arrows) (o ∷ olds) (n ∷ news) = record { arrow = a; old = o; new = n } ∷ kept_of arrows olds news

  abbrev pub commit_at : ℕ → ℕ → List ℕ → List L → List (Kept L)
  commit_at i n arrows history = kept_of (take n (drop i arrows)) (take n (drop i history)) (take n (drop (256 + i) history))

  abbrev pub commits_of : ℕ → List ℕ → List ℕ → List L → List (List (Kept L))
  commits_of i [] arrows history = []
  commits_of i (n ∷ ns) arrows history = commit_at i n arrows history ∷ commits_of (i + n) ns arrows history

  abbrev pub history_of : History → List L → List (List (Kept L))
  history_of h hs = commits_of 0 h.sizes.items h.arrows.items hs

  abbrev pub labels_of : Bench → Lists L → Labelling L
  labels_of b t = record { arrows = take (length (ends_of b.source)) t.labels; constants = take b.constants t.constants }

  abbrev pub desk : Bench → Lists L → Desk L
  desk b t =
      record {
        is_open = is_some b.source;
        number = b.number;
        ends = ends_of b.source;
        course = course_of b.workspace;
        rows = rows_of b;
        labels = labels_of b t;
        draft = draft_of (rows_of b) b.draft t.asked;
        history = history_of b.history t.history;
        standing = b.history.standing;
      }

  abbrev pub short : Bench → Lists L → Bool
  short b t =
      nat_lt (length t.labels) (length (ends_of b.source)) || (nat_lt (length t.constants) b.constants || (nat_lt (length t.asked) 32 || nat_lt (length t.history) 512))

  abbrev pub handed : Bool → ℕ → Request L → Call L
  handed s n r = record { short = s; slip = n; request = r }

  abbrev pub Steps : (L → L → Bool) → ℕ → Request L → Bench → Lists L → Bench → Lists L → Answer L → Type 0
  Steps alike n r b t b' t' a = (desk b' t', a) ≡ step alike (handed (short b t) n r) (desk b t)

  abbrev pub Reads : (L → L → Bool) → Request L → Bench → Tables L → Answer L → Type 0
  Reads alike r b t a = Steps alike 0 r b (lists_of t) b (lists_of t) a

  abbrev pub begun : Result Slip Refusal → Answer L
  begun (Ok s) = answer.Begun s.number
  begun (Err e) = answer.Refused e

  abbrev pub told : Result Unit Refusal → Answer L
  told (Ok u) = answer.Done
  told (Err e) = answer.Refused e

  abbrev pub said : {X : Type 0} → (X → Answer L) → Result X Refusal → Answer L
  said f (Ok x) = f x
  said f (Err e) = answer.Refused e

  abbrev pub paired : {X : Type 0} → X → Option L → Option (X × L)
  paired x None = None
  paired x (Some l) = Some (x, l)

  abbrev pub row_shown : Labelling L → Option Row → Option (Row × L)
  row_shown ls None = None
  row_shown ls (Some row) = paired row (label_in ls row.origin)

  abbrev pub arrow_shown : Option (ℕ × ℕ) → Option L → Option ((ℕ × ℕ) × L)
  arrow_shown None l = None
  arrow_shown (Some a) l = paired a l

  abbrev pub dropped : Result Unit Returned → Answer L
  dropped (Ok u) = answer.Done
  dropped (Err e) = answer.Refused e.refusal

abbrev pub ready : Bool → Bool → Result Unit Refusal
ready s o = cond s (Err ShortTable) (cond o (Ok tt) (Err NothingOpened))

abbrev pub admitted : Result Unit Refusal → Bool → Bool → Result Unit Refusal
admitted (Err e) f o = Err e
admitted (Ok u) f o = cond (o && f) (Ok tt) (Err SlipUnfit)
