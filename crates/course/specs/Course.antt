-- A course, and the steps that a run takes on one. Assumes nothing.
--
--   Course           four lists: nodes, arrows, frames and comparisons
--   is_blank_origin  whether an origin is blank
--   list_number      the number of a list: nodes 1, arrows 2, frames 3, comparisons 4
--   Run X            how a step ends: done, with an answer and the course so far, or full, with the
--                    first entry that does not fit
--   Step X           a step: it goes on from a course
--   onward           goes on from where a step ended, if it is done
--   give, >>=, >>    a step that only answers; a step after another, with its answer or without
--   branch           one of two steps
--   full_at p f l    the entry of the list l that the rule of the place p in the frame f makes, and that does not fit
--   enter_node ..    one more entry of a list, if it fits; a node and a frame answer their number. A frame carries no
--                    frame of its own, so the place and the frame whose rule makes it come first
--   new_node p f m   a node with the marker m that stands for itself
--   link, new_arrow  an arrow
--   each             a step for each element of a list, in order
--   each_at          the same, where the step also has the element's number, counted from i on
--   nodes_for        for each marker of a set, counted from i on, a step that answers its node; 0 for the others
use Rattle.std.specs.Prelude.{ℕ, suc, Bool, true, false, cond, List, [], ◌∷◌, ◌++◌, length, nat_lt}
use Rattle.course.specs.declared.course.Node.{Node}
use Rattle.course.specs.declared.course.Arrow.{Arrow}
use Rattle.course.specs.declared.course.Frame.{Frame}
use Rattle.course.specs.declared.course.Comparison.{Comparison}
use Rattle.course.specs.declared.course.Origin.{Origin}
use Rattle.course.specs.declared.course.Origin.TheVariants.{Blank, Source, Constant}
use Rattle.course.specs.declared.course.Full.{Full}
use Rattle.course.specs.declared.course.ListName.{ListName}
use Rattle.course.specs.declared.course.ListName.TheVariants.{Nodes, Arrows, Frames, Comparisons}

infixl 20 ◌>>=◌
infixl 20 ◌>>◌
pub record Course : Type 0 where
  pub nodes : List Node
  pub arrows : List Arrow
  pub frames : List Frame
  pub comparisons : List Comparison

abbrev pub is_blank_origin : Origin → Bool
is_blank_origin Blank = true
is_blank_origin (Source k) = false
is_blank_origin (Constant k) = false

abbrev pub list_number : ListName → ℕ
list_number Nodes = 1
list_number Arrows = 2
list_number Frames = 3
list_number Comparisons = 4

pub data Run (X : Type 0) : Type 0 where
  done : X → Course → Run X
  full : Full → Run X

abbrev pub Step : Type 0 → Type 0
Step X = Course → Run X

abbrev pub onward : {X Y : Type 0} → Run X → (X → Step Y) → Run Y
onward (done x c) k = k x c
onward (full e) k = full e

abbrev pub give : {X : Type 0} → X → Step X
give x c = done x c

abbrev pub ◌>>=◌ : {X Y : Type 0} → Step X → (X → Step Y) → Step Y
◌>>=◌ m k c = onward (m c) k

abbrev pub ◌>>◌ : {X Y : Type 0} → Step X → Step Y → Step Y
◌>>◌ m k c = onward (m c) (λ x. k)

abbrev pub branch : {X : Type 0} → Bool → Step X → Step X → Step X
branch true m n c = m c
branch false m n c = n c

abbrev pub full_at : ℕ → ℕ → ListName → Full
full_at p f l = record { place = p; frame = f; list = l }

unfoldable pub enter_node : Node → Step ℕ
enter_node n c =
    cond (nat_lt (length c.nodes) 1024)
    (done (length c.nodes) (record { nodes = c.nodes ++ n ∷ []; arrows = c.arrows; frames = c.frames; comparisons = c.comparisons }))
    (full (full_at n.place n.frame Nodes))

unfoldable pub enter_arrow : Arrow → Step (Unit {0})
enter_arrow a c =
    cond (nat_lt (length c.arrows) 2048)
    (done tt (record { nodes = c.nodes; arrows = c.arrows ++ a ∷ []; frames = c.frames; comparisons = c.comparisons }))
    (full (full_at a.place a.frame Arrows))

unfoldable pub enter_frame : ℕ → ℕ → Frame → Step ℕ
enter_frame p f n c =
    cond (nat_lt (length c.frames) 512)
    (done (length c.frames) (record { nodes = c.nodes; arrows = c.arrows; frames = c.frames ++ n ∷ []; comparisons = c.comparisons }))
    (full (full_at p f Frames))

unfoldable pub enter_comparison : Comparison → Step (Unit {0})
enter_comparison q c =
    cond (nat_lt (length c.comparisons) 1024)
    (done tt (record { nodes = c.nodes; arrows = c.arrows; frames = c.frames; comparisons = c.comparisons ++ q ∷ [] }))
    (full (full_at q.place q.frame Comparisons))

abbrev pub new_node : ℕ → ℕ → ℕ → Step ℕ
new_node p f m c = enter_node (record { place = p; frame = f; marker = m; stands = length c.nodes }) c

abbrev pub link : ℕ → ℕ → Origin → ℕ → ℕ → Arrow
link t h o p f = record { tail = t; head = h; origin = o; place = p; frame = f }

abbrev pub new_arrow : ℕ → ℕ → Origin → ℕ → ℕ → Step (Unit {0})
new_arrow t h o p f = enter_arrow (link t h o p f)

unfoldable pub each : {X : Type 0} → (X → Step (Unit {0})) → List X → Step (Unit {0})
each step [] c = done tt c
each step (x ∷ xs) c = onward (step x c) (λ y. each step xs)

unfoldable pub each_at : {X : Type 0} → (ℕ → X → Step (Unit {0})) → ℕ → List X → Step (Unit {0})
each_at step i [] c = done tt c
each_at step i (x ∷ xs) c = onward (step i x c) (λ y. each_at step (suc i) xs)

unfoldable pub nodes_for : (ℕ → Step ℕ) → ℕ → List Bool → Step (List ℕ)
nodes_for step i [] c = done [] c
nodes_for step i (b ∷ bs) c = onward (branch b (step i) (give 0) c) (λ v. nodes_for step (suc i) bs >>= λ vs. give (v ∷ vs))
