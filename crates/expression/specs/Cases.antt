-- Worked cases of admission. Assumes nothing.
--
-- Cabinet P's expression follows each arrow of the source whose label is not constant 0; cabinet
-- Q's is the source beside a node with one more arrow to it.
--   computes               opened by a proof, it lets an answer compute
--   raw_place              a raw place by all its fields
--   leaf, with_number, joined    one with a letter and no field, a number, or two parts
--   node, out, graph, edge, union, choice, recursion    one of a form, its unused fields 0
--   places_p, places_q     the two cabinets' raw places
--   Worked                 what admission answers to them, and one case of each refusal
use Rattle.std.specs.Prelude.{◌≡◌, ℕ, List, [], ◌∷◌, Ok, Err}
use Rattle.expression.specs.declared.term.Term.{Term}
use Rattle.expression.specs.declared.term.Term.TheVariants.{Constant, Variable}
use Rattle.expression.specs.declared.raw.RawPlace.{RawPlace}
use Rattle.expression.specs.declared.refusal.Refusal.TheVariants.{Size, IllFormed, NotPartOnce, OutOfRange, SetsUnfit}
use Rattle.expression.specs.Forms.{tree_in, tree_at, ins, outs}
use Rattle.expression.specs.Parts.{uses, occurrences, level_in}
use Rattle.expression.specs.Admission.{lowest, admission}

-- to compute an answer
unfoldable pub computes : Unit {0}
unfolding tree_in tree_at ins outs uses occurrences level_in lowest admission
computes = tt

abbrev pub raw_place : ℕ → Term → Term → ℕ → ℕ → ℕ → RawPlace
raw_place letter s t m e f = record { letter = letter; term = s; other_term = t; number = m; part = e; other_part = f }

abbrev pub leaf : ℕ → RawPlace
leaf letter = raw_place letter (Constant 0) (Constant 0) 0 0 0

abbrev pub with_number : ℕ → ℕ → RawPlace
with_number letter m = raw_place letter (Constant 0) (Constant 0) m 0 0

abbrev pub joined : ℕ → ℕ → ℕ → RawPlace
joined letter e f = raw_place letter (Constant 0) (Constant 0) 0 e f

-- the forms by their letters
abbrev pub node : RawPlace
node = leaf 78

abbrev pub out : ℕ → RawPlace
out m = with_number 79 m

abbrev pub graph : ℕ → RawPlace
graph j = with_number 71 j

abbrev pub edge : Term → ℕ → RawPlace
edge t e = raw_place 69 t (Constant 0) 0 e 0

abbrev pub union : ℕ → ℕ → RawPlace
union e f = joined 85 e f

abbrev pub choice : Term → Term → ℕ → ℕ → RawPlace
choice s t e f = raw_place 73 s t 0 e f

abbrev pub recursion : ℕ → ℕ → RawPlace
recursion b a = joined 82 b a

abbrev pub places_p : List RawPlace
places_p = out 0 ∷ edge (Variable 1) 0 ∷ node ∷ choice (Variable 1) (Constant 0) 2 1 ∷ graph 0 ∷ recursion 3 4 ∷ []

abbrev pub places_q : List RawPlace
places_q = graph 0 ∷ graph 0 ∷ edge (Constant 0) 1 ∷ union 0 2 ∷ []

pub record Worked : Type 0 where
  pub admitted_p : admission places_p 1 ≡ Ok tt
  pub admitted_q : admission places_q 1 ≡ Ok tt
  -- without its constant, Q's edge has no label
  pub without_constant : admission places_q 0 ≡ Err (OutOfRange 2)
  pub nothing : admission [] 0 ≡ Err Size
  pub no_form : admission (leaf 66 ∷ []) 0 ≡ Err (IllFormed 0)
  pub own_part : admission (union 0 0 ∷ []) 0 ≡ Err (IllFormed 0)
  pub used_twice : admission (node ∷ union 0 0 ∷ []) 0 ≡ Err (NotPartOnce 0)
  pub not_used : admission (node ∷ node ∷ []) 0 ≡ Err (NotPartOnce 0)
  pub open_whole : admission (out 0 ∷ []) 0 ≡ Err (SetsUnfit 0)
