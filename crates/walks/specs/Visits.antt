-- What is marked in a walk, and which of the marked nodes are still to be visited. Assumes nothing.
--
-- Marks are flags, one for each node.
--   Visiting           the marks, and the list of the nodes that are still to be visited
--   visiting vs        what visits hold
--   nothing            no node is marked
--   visit_one v s      s after v is visited: v is marked, and listed unless it is marked already or has no mark
--   visit_each vs s    s after each of vs is visited
--   Takes s t r        the last of the list of s is taken off and is r, which leaves t; None where nothing is listed
--   VisitsHeads        the heads of just the steps that leave v are visited, which turns the visits old into new
use Rattle.std.specs.Prelude.{◌≡◌, ℕ, Bool, true, false, cond, ◌↔◌, List, [], ◌∷◌, ◌++◌, replicate, Some, None, Option, slice_index_or, slice_set}
use Rattle.walks.specs.declared.visits.Visits.{Visits}
use Rattle.walks.specs.Reach.{In}

pub record Visiting : Type 0 where
  pub marks : List Bool
  pub listed : List ℕ

abbrev pub visiting : Visits → Visiting
visiting visits = record { marks = visits.marks; listed = visits.todo.items }

abbrev pub nothing : Visiting
nothing = record { marks = replicate 1024 false; listed = [] }

abbrev pub visit_one : ℕ → Visiting → Visiting
visit_one v s =
    record { marks = slice_set s.marks v true; listed = cond (slice_index_or s.marks v true) s.listed (s.listed ++ v ∷ []) }

abbrev pub visit_each : List ℕ → Visiting → Visiting
visit_each [] s = s
visit_each (v ∷ vs) s = visit_each vs (visit_one v s)

abbrev pub Takes : Visiting → Visiting → Option ℕ → Type 0
Takes s t None = (s.listed ≡ []) × (t ≡ s)
Takes s t (Some v) = (s.listed ≡ t.listed ++ v ∷ []) × (t.marks ≡ s.marks)

pub record VisitsHeads (steps : List (ℕ × ℕ)) (v : ℕ) (old new : Visits) : Type 0 where
  pub heads : List ℕ
  pub exact : (w : ℕ) → In w heads ↔ In (v, w) steps
  pub visited : visiting new ≡ visit_each heads (visiting old)
