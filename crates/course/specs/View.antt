-- What a workspace holds, and how the answer of a call that works on it agrees with a run of the rules. Assumes nothing.
--
--   course_of w     the course that the workspace w holds
--   stack w         the outs on its stack
--   size w          how many nodes it has
--   with_node n c, with_arrow a c    the course c with one more node, with one more arrow
--   with_nodes n    the course that has n source nodes alone
--   with_arrows n xs the course that has n source nodes and the source arrows xs alone
--   cut xs i j      a list without what stands from i up to j
--   Within n into   every node of an in-map is among the first n
--   Bound env n     what the graph variables of env stand for is among the first n nodes
--   Known l t       the term t is a constant, or a label variable of the level l or a lower one
--
-- Each of these says of a call, from the workspace w to the workspace v and with the answer r, that it does what the run
-- does: where the run is done, the call answers Ok, v holds the run's course and has no fewer nodes than w; where the run
-- is full, the call answers Err with the same entry.
--   Steps           a run that answers a node
--   Opens           a run that answers the number of a frame
--   Goes            a run that answers nothing
--   Makes           a run that answers an in-map of nodes that are there
--   Tells           a comparison, with its outcome
--   Agrees          an evaluation, which puts its outs on the stack; the others leave the stack as it is
--   Evaluates       the evaluation of a tree in an environment and a frame
--   Ran run v r     a whole run: where it is done, v holds its course, and r is the whole's node for marker 0, which is a
--                   node of the course; where it is full, r is the entry that does not fit and v holds the empty course
--   Counts c s      s has how many entries each list of the course c has
use Rattle.std.specs.Prelude.{◌≡◌, ℕ, ◌<◌, ◌≤◌, List, [], ◌∷◌, ◌++◌, length, take, drop, Ok, Err, vec_items, vec_len, Result, slice_index}
use Rattle.expression.specs.declared.term.Term.{Term}
use Rattle.expression.specs.declared.term.Term.TheVariants.{Constant, Variable}
use Rattle.expression.specs.Forms.{Tree}
use Rattle.course.specs.declared.workspace.Workspace.{Workspace}
use Rattle.course.specs.declared.environment.Environment.{Environment}
use Rattle.course.specs.declared.environment.Out.{Out}
use Rattle.course.specs.declared.course.Node.{Node}
use Rattle.course.specs.declared.course.Arrow.{Arrow}
use Rattle.course.specs.declared.course.Outcome.{Outcome}
use Rattle.course.specs.declared.course.Full.{Full}
use Rattle.course.specs.declared.course.Sizes.{Sizes}
use Rattle.course.specs.Course.{Course, Run, done, full}
use Rattle.course.specs.Labels.{Compare}
use Rattle.course.specs.Opening.{no_course, source_nodes, source_arrows}
use Rattle.course.specs.Forward.{Maps, maps, node_of, eval}

abbrev pub course_of : Workspace → Course
course_of w =
    record {
      nodes = vec_items w.nodes;
      arrows = vec_items w.arrows;
      frames = vec_items w.frames;
      comparisons = vec_items w.comparisons;
    }

abbrev pub stack : Workspace → List Out
stack w = vec_items w.outs

abbrev pub size : Workspace → ℕ
size w = vec_len w.nodes

abbrev pub with_node : Node → Course → Course
with_node n c = record { nodes = c.nodes ++ n ∷ []; arrows = c.arrows; frames = c.frames; comparisons = c.comparisons }

abbrev pub with_arrow : Arrow → Course → Course
with_arrow a c = record { nodes = c.nodes; arrows = c.arrows ++ a ∷ []; frames = c.frames; comparisons = c.comparisons }

abbrev pub with_nodes : ℕ → Course
with_nodes n = record { nodes = source_nodes 0 n; arrows = []; frames = []; comparisons = [] }

abbrev pub with_arrows : ℕ → List (ℕ × ℕ) → Course
with_arrows n xs = record { nodes = source_nodes 0 n; arrows = source_arrows 0 xs; frames = []; comparisons = [] }

abbrev pub cut : {X : Type 0} → List X → ℕ → ℕ → List X
cut xs i j = take i xs ++ drop j xs

abbrev pub Within : ℕ → List ℕ → Type 0
Within n into = (m : ℕ) → slice_index into m < n

abbrev pub Bound : Environment → ℕ → Type 0
Bound env n = (j : ℕ) → node_of env j < n

abbrev pub Known : ℕ → Term → Type 0
Known l (Constant c) = Unit {0}
Known l (Variable j) = j ≤ l

abbrev pub Stepped : Run ℕ → Workspace → Workspace → Result ℕ Full → Type 0
Stepped run w v (Ok n) = (run ≡ done n (course_of v)) × (stack v ≡ stack w) × (size w ≤ size v) × (n < size v)
Stepped run w v (Err e) = run ≡ full e

pub record Steps (run : Run ℕ) (w v : Workspace) (r : Result ℕ Full) : Type 0 where
  pub told : Stepped run w v r

abbrev pub Opened : Run ℕ → Workspace → Workspace → Result ℕ Full → Type 0
Opened run w v (Ok n) = (run ≡ done n (course_of v)) × (stack v ≡ stack w) × (size w ≤ size v)
Opened run w v (Err e) = run ≡ full e

pub record Opens (run : Run ℕ) (w v : Workspace) (r : Result ℕ Full) : Type 0 where
  pub told : Opened run w v r

abbrev pub Gone : Run (Unit {0}) → Workspace → Workspace → Result (Unit {0}) Full → Type 0
Gone run w v (Ok n) = (run ≡ done tt (course_of v)) × (stack v ≡ stack w) × (size w ≤ size v)
Gone run w v (Err e) = run ≡ full e

pub record Goes (run : Run (Unit {0})) (w v : Workspace) (r : Result (Unit {0}) Full) : Type 0 where
  pub told : Gone run w v r

abbrev pub Made : Run (List ℕ) → Workspace → Workspace → Result (List ℕ) Full → Type 0
Made run w v (Ok n) = (run ≡ done n (course_of v)) × (stack v ≡ stack w) × (size w ≤ size v) × Within (size v) n
Made run w v (Err e) = run ≡ full e

pub record Makes (run : Run (List ℕ)) (w v : Workspace) (r : Result (List ℕ) Full) : Type 0 where
  pub told : Made run w v r

abbrev pub Said : Outcome → Run (Unit {0}) → Workspace → Workspace → Result Outcome Full → Type 0
Said b run w v (Ok t) = (t ≡ b) × (run ≡ done tt (course_of v)) × (stack v ≡ stack w) × (size w ≤ size v)
Said b run w v (Err e) = run ≡ full e

pub record Tells (b : Outcome) (run : Run (Unit {0})) (w v : Workspace) (r : Result Outcome Full) : Type 0 where
  pub told : Said b run w v r

abbrev pub Agreed : Run Maps → Workspace → Workspace → Result (List ℕ) Full → Type 0
Agreed run w v (Ok n) = (os : List Out) × (run ≡ done (maps n os) (course_of v)) × (stack v ≡ stack w ++ os) × (size w ≤ size v) × Within (size v) n
Agreed run w v (Err e) = run ≡ full e

pub record Agrees (run : Run Maps) (w v : Workspace) (r : Result (List ℕ) Full) : Type 0 where
  pub told : Agreed run w v r

pub record Evaluates (cmp : Compare) (x : Tree) (env : Environment) (f : ℕ) (w v : Workspace) (r : Result (List ℕ) Full) : Type 0 where
  pub run : Agrees (eval cmp x env f (course_of w)) w v r

abbrev pub Finished : Run ℕ → Workspace → Result ℕ Full → Type 0
Finished run v (Ok n) = (run ≡ done n (course_of v)) × (n < length (course_of v).nodes)
Finished run v (Err e) = (run ≡ full e) × (course_of v ≡ no_course)

pub record Ran (run : Run ℕ) (v : Workspace) (r : Result ℕ Full) : Type 0 where
  pub told : Finished run v r

pub record Counts (c : Course) (s : Sizes) : Type 0 where
  pub nodes : s.nodes ≡ length c.nodes
  pub arrows : s.arrows ≡ length c.arrows
  pub frames : s.frames ≡ length c.frames
  pub comparisons : s.comparisons ≡ length c.comparisons
