-- The checks of admission, in their order. Assumes nothing.
--
-- An expression is handed in as a list of raw places and the number of its constants. Each check
-- goes over every place, and the first check that fails is told with the lowest place at which it
-- fails.
--   sized n c               there are 1 to 64 places and at most 32 constants
--   table_read raw          the table of the forms of the raw places
--   read_at raw p           the form that the raw place p names, if any
--   lower_form p form       it is one, and its parts stand lower
--   well_formed raw p       the letter at p is a form's, and its parts stand lower
--   part_once table p       p is a part exactly once, or the last place of the table and no part
--   fields_fit c l form     the variables, constants and markers of a form at the level l
--   form_in_range c l form  the level l, and the variables, constants and markers of a form there
--   level_at table p        the level of the place p in the tree of the last place
--   HasLevels table levels  a table of levels has those of the places of a table
--   range_kept table c p    the form at p keeps to its range there
--   closed sets             the sets of a whole: marker 0 alone in, nothing out
--   sets_hold part form     the condition of a form, by the sets of its parts
--   sets_agree table p      the condition of the form at p; at the last place also the whole's own
--   sets_agree_by           the same, for any sets of the places
--   or_here                 one more place looked at: what was found before, or this place
--   lowest n test           the lowest of the first n places at which a test fails
--   told refusal found      what a check answers: the refusal for the place that was found, if any
--   formed raw              what the check of the letters and the lower parts answers
--   refused_at              the refusal for such a place, or else the next check's answer
--   checked raw table c     the answer of the checks that go over the places
--   admission raw c         what admission answers
use Rattle.std.specs.Prelude.{◌≡◌, ℕ, zero, suc, ◌-◌, ◌<◌, Bool, true, false, cond, ◌&&◌, List, map, length, Some, None, Ok, Err, Option, Result, ◌==◌, nat_le, nat_lt, slice_index, slice_index_or}
use Rattle.expression.specs.declared.form.Form.{Form}
use Rattle.expression.specs.declared.form.Form.TheVariants.{Zero, Node, Edge, Union, Mark, Out, Disjoint, Append, Graph, If, Recursion}
use Rattle.expression.specs.declared.raw.RawPlace.{RawPlace}
use Rattle.expression.specs.declared.refusal.Refusal.{Refusal}
use Rattle.expression.specs.declared.refusal.Refusal.TheVariants.{Size, IllFormed, NotPartOnce, OutOfRange, SetsUnfit}
use Rattle.expression.specs.Markers.{no_markers, just, alike, apart, within}
use Rattle.expression.specs.declared.sets.Sets.{Sets}
use Rattle.expression.specs.Forms.{lower, tree_at}
use Rattle.expression.specs.Sets.{sets_at}
use Rattle.expression.specs.Rules.{term_fits}
use Rattle.expression.specs.Raw.{read, form_read}
use Rattle.expression.specs.Parts.{uses, level_in}

abbrev pub sized : ℕ → ℕ → Bool
sized n c = (nat_le 1 n && nat_le n 64) && nat_le c 32

abbrev pub table_read : List RawPlace → List Form
table_read raw = map form_read raw

-- 12
abbrev pub lower_form : ℕ → Option Form → Bool
lower_form p (Some form) = lower p form
lower_form p None = false

abbrev pub read_at : List RawPlace → ℕ → Option Form
read_at raw p = slice_index_or (map read raw) p None

abbrev pub well_formed : List RawPlace → ℕ → Bool
well_formed raw p = lower_form p (read_at raw p)

-- 13
abbrev pub part_once : List Form → ℕ → Bool
part_once table p = uses table (length table) p == cond (suc p == length table) 0 1

-- 14
abbrev pub fields_fit : ℕ → ℕ → Form → Bool
fields_fit c l Zero = true
fields_fit c l Node = true
fields_fit c l (Edge t e) = term_fits c l t
fields_fit c l (Union e f) = true
fields_fit c l (Mark m e) = nat_lt m 8
fields_fit c l (Out m) = nat_lt m 8
fields_fit c l (Disjoint e f) = true
fields_fit c l (Append e f) = true
fields_fit c l (Graph j) = nat_le j l
fields_fit c l (If s t e f) = term_fits c l s && term_fits c l t
fields_fit c l (Recursion b a) = true

abbrev pub form_in_range : ℕ → ℕ → Form → Bool
form_in_range c l form = nat_le l 4 && fields_fit c l form

abbrev pub level_at : List Form → ℕ → ℕ
level_at table p = level_in p 0 (tree_at table (length table - 1))

abbrev pub HasLevels : List Form → List ℕ → Type 0
HasLevels table levels = (p : ℕ) → p < length table → slice_index levels p ≡ level_at table p

abbrev pub range_kept : List Form → ℕ → ℕ → Bool
range_kept table c p = form_in_range c (level_at table p) (slice_index_or table p Zero)

-- 15
abbrev pub closed : Sets → Bool
closed whole = alike whole.in_set (just 0) && alike whole.out_set no_markers

abbrev pub sets_hold : (ℕ → Sets) → Form → Bool
sets_hold part Zero = true
sets_hold part Node = true
sets_hold part (Edge t e) = alike (part e).in_set (just 0)
sets_hold part (Union e f) = alike (part e).in_set (part f).in_set
sets_hold part (Mark m e) = alike (part e).in_set (just 0)
sets_hold part (Out m) = true
sets_hold part (Disjoint e f) = apart (part e).in_set (part f).in_set
sets_hold part (Append e f) = true
sets_hold part (Graph j) = true
sets_hold part (If s t e f) = alike (part e).in_set (part f).in_set
sets_hold part (Recursion b a) = closed (part a) && within (part b).out_set (part b).in_set

abbrev pub sets_agree_by : (ℕ → Sets) → List Form → ℕ → Bool
sets_agree_by at table p = sets_hold at (slice_index_or table p Zero) && cond (suc p == length table) (closed (at p)) true

abbrev pub sets_agree : List Form → ℕ → Bool
sets_agree table p = sets_agree_by (sets_at table) table p

-- the first failing check, and its lowest place
abbrev pub or_here : Option ℕ → Bool → ℕ → Option ℕ
or_here (Some p) passes here = Some p
or_here None true here = None
or_here None false here = Some here

unfoldable pub lowest : ℕ → (ℕ → Bool) → Option ℕ
lowest zero test = None
lowest (suc n) test = or_here (lowest n test) (test n) n

abbrev pub told : (ℕ → Refusal) → Option ℕ → Result (Unit {0}) Refusal
told refusal (Some p) = Err (refusal p)
told refusal None = Ok tt

abbrev pub formed : List RawPlace → Result (Unit {0}) Refusal
formed raw = told IllFormed (lowest (length raw) (well_formed raw))

abbrev pub refused_at : Option ℕ → (ℕ → Refusal) → Result (Unit {0}) Refusal → Result (Unit {0}) Refusal
refused_at (Some p) refusal next = Err (refusal p)
refused_at None refusal next = next

abbrev pub checked : List RawPlace → List Form → ℕ → Result (Unit {0}) Refusal
checked raw table c =
    refused_at (lowest (length raw) (well_formed raw)) IllFormed
    (refused_at (lowest (length table) (part_once table)) NotPartOnce
    (refused_at (lowest (length table) (range_kept table c)) OutOfRange
    (refused_at (lowest (length table) (sets_agree table)) SetsUnfit
    (Ok tt))))

unfoldable pub admission : List RawPlace → ℕ → Result (Unit {0}) Refusal
admission raw c = cond (sized (length raw) c) (checked raw (table_read raw) c) (Err Size)
