-- Sources: what they hold, and what is refused as a source. Assumes nothing.
--
--   Graph           a graph: how many nodes, and its arrows as pairs of tail and head
--   graph n as      such a graph from its two parts
--   graph_of s      the graph that the source s holds
--   outside n k as  the lowest of the arrows as, numbered from k on, with an end that is not among n nodes
--   sized n l       whether n nodes and l arrows are as many as a source may have
--   fault n as      what is wrong with n nodes and the arrows as, the counts first; None where it is a source
--   Taken n as r    the answer r to n nodes and the arrows as: a source of just these, or their fault
use Rattle.std.specs.Prelude.{◌≡◌, ℕ, suc, Bool, cond, ◌&&◌, List, [], ◌∷◌, length, Some, None, Ok, Err, Option, Result, nat_le}
use Rattle.course.specs.declared.source.Source.{Source}
use Rattle.course.specs.declared.source.SourceFault.{SourceFault}
use Rattle.course.specs.declared.source.SourceFault.TheVariants.{Count, End}
use Rattle.course.specs.Ends.{joins}

pub record Graph : Type 0 where
  pub nodes : ℕ
  pub arrows : List (ℕ × ℕ)

abbrev pub graph : ℕ → List (ℕ × ℕ) → Graph
graph n arrows = record { nodes = n; arrows = arrows }

abbrev pub graph_of : Source → Graph
graph_of s = graph s.nodes s.arrows.items

abbrev pub outside : ℕ → ℕ → List (ℕ × ℕ) → Option SourceFault
outside n k [] = None
outside n k (a ∷ rest) = cond (joins n a) (outside n (suc k) rest) (Some (End k))

abbrev pub sized : ℕ → ℕ → Bool
sized n l = (nat_le 1 n && nat_le n 128) && nat_le l 256

abbrev pub fault : ℕ → List (ℕ × ℕ) → Option SourceFault
fault n arrows = cond (sized n (length arrows)) (outside n 0 arrows) (Some Count)

abbrev pub Taken : ℕ → List (ℕ × ℕ) → Result Source SourceFault → Type 0
Taken n arrows (Ok s) = (graph_of s ≡ graph n arrows) × (fault n arrows ≡ None)
Taken n arrows (Err e) = fault n arrows ≡ Some e
