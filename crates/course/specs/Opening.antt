-- The course that a run starts from. Assumes nothing.
--
-- The entries of the source carry the place 64, the frame 0 and the marker 0.
--   source_nodes i n  n nodes, numbered from i on
--   source_arrows k as the arrows as, numbered from k on, each with its own label
--   no_course         the empty course
--   opening           the nodes and the arrows of a source, and frame 0
use Rattle.std.specs.Prelude.{ℕ, zero, suc, List, [], ◌∷◌}
use Rattle.course.specs.declared.course.Arrow.{Arrow}
use Rattle.course.specs.declared.course.Node.{Node}
use Rattle.course.specs.declared.course.Origin.TheVariants.{Source}
use Rattle.course.specs.Course.{Course, link}
use Rattle.course.specs.Sources.{Graph}

abbrev pub source_nodes : ℕ → ℕ → List Node
source_nodes i zero = []
source_nodes i (suc n) = record { place = 64; frame = 0; marker = 0; stands = i } ∷ source_nodes (suc i) n

abbrev pub source_arrows : ℕ → List (ℕ × ℕ) → List Arrow
source_arrows k [] = []
source_arrows k (a ∷ rest) = link a.0 a.1 (Source k) 64 0 ∷ source_arrows (suc k) rest

abbrev pub no_course : Course
no_course = record { nodes = []; arrows = []; frames = []; comparisons = [] }

abbrev pub opening : Graph → Course
opening g =
    record {
      nodes = source_nodes 0 g.nodes;
      arrows = source_arrows 0 g.arrows;
      frames = record { parent = 0; place = 64; arrow = 0 } ∷ [];
      comparisons = [];
    }
