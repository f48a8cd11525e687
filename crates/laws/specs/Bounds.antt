-- What every course of a finished run keeps. Assumes nothing.
--
-- s is the number of the source's arrows, n the number of constants.
--   Known s n o        the origin o is blank, a source arrow that there is, or a constant that there is
--   Labelled s n o     the origin o is a source arrow or a constant that there is
--   NodeIn c i x       the node x with the number i: its frame is a frame of c, its marker is one of the eight, and it stands
--                      for itself or an earlier node
--   ArrowIn s n c a    the ends of the arrow a are nodes of c, its frame is a frame of c, its origin is known
--   InnerFrame c i x   the frame x with the number i, made for an arrow: its parent is an earlier frame, its arrow is an
--                      arrow of c that is not blank
--   FrameIn c i x      frame 0 is the source's frame, and the others are inner frames
--   ComparisonIn       the frame of a comparison is a frame of c, and both its origins have labels
--   CourseIn s n c     all this of every entry, each with its number; there are a node and a frame; each list is within its
--                      size
--   Sound g            g has 1 to 128 nodes, at most 256 arrows, and the ends of its arrows are nodes
--   Bounded g n v c    the course c keeps all this, and v is one of its nodes
--   Bounds             every finished run over a sound source, of an expression that keeps the rules with n constants,
--                      leaves such a course
use Rattle.std.specs.Prelude.{◌≡◌, ℕ, zero, suc, ◌<◌, ◌≤◌, true, false, length, slice_index_or}
use Rattle.expression.specs.Forms.{Tree}
use Rattle.expression.specs.Rules.{keeps}
use Rattle.course.specs.declared.course.Arrow.{Arrow}
use Rattle.course.specs.declared.course.Comparison.{Comparison}
use Rattle.course.specs.declared.course.Frame.{Frame}
use Rattle.course.specs.declared.course.Node.{Node}
use Rattle.course.specs.declared.course.Origin.{Origin}
use Rattle.course.specs.declared.course.Origin.TheVariants.{Blank, Source, Constant}
use Rattle.course.specs.Course.{is_blank_origin, Course, done}
use Rattle.course.specs.Ends.{inside}
use Rattle.course.specs.Labels.{Compare}
use Rattle.course.specs.Reach.{lost}
use Rattle.course.specs.Sources.{Graph}
use Rattle.course.specs.Forward.{forward}
use Rattle.laws.specs.Every.{Every, EveryFrom}

abbrev pub Known : ℕ → ℕ → Origin → Type 0
Known s n Blank = Unit {0}
Known s n (Source k) = k < s
Known s n (Constant k) = k < n

abbrev pub Labelled : ℕ → ℕ → Origin → Type 0
Labelled s n Blank = ⊥
Labelled s n (Source k) = k < s
Labelled s n (Constant k) = k < n

pub record NodeIn (c : Course) (i : ℕ) (x : Node) : Type 0 where
  pub frame : x.frame < length c.frames
  pub marker : x.marker < 8
  pub stands : x.stands ≤ i

pub record ArrowIn (s n : ℕ) (c : Course) (a : Arrow) : Type 0 where
  pub tail : a.tail < length c.nodes
  pub head : a.head < length c.nodes
  pub frame : a.frame < length c.frames
  pub origin : Known s n a.origin

pub record InnerFrame (c : Course) (i : ℕ) (x : Frame) : Type 0 where
  pub parent : x.parent < i
  pub arrow : x.arrow < length c.arrows
  pub labelled : is_blank_origin (slice_index_or c.arrows x.arrow lost).origin ≡ false

abbrev pub FrameIn : Course → ℕ → Frame → Type 0
FrameIn c zero x = x ≡ record { parent = 0; place = 64; arrow = 0 }
FrameIn c (suc i) x = InnerFrame c (suc i) x

pub record ComparisonIn (s n : ℕ) (c : Course) (q : Comparison) : Type 0 where
  pub frame : q.frame < length c.frames
  pub left : Labelled s n q.left
  pub right : Labelled s n q.right

pub record CourseIn (s n : ℕ) (c : Course) : Type 0 where
  pub a_node : 0 < length c.nodes
  pub a_frame : 0 < length c.frames
  pub few_nodes : length c.nodes ≤ 1024
  pub few_arrows : length c.arrows ≤ 2048
  pub few_frames : length c.frames ≤ 512
  pub few_comparisons : length c.comparisons ≤ 1024
  pub nodes : EveryFrom (NodeIn c) 0 c.nodes
  pub arrows : Every (ArrowIn s n c) c.arrows
  pub frames : EveryFrom (FrameIn c) 0 c.frames
  pub comparisons : Every (ComparisonIn s n c) c.comparisons

pub record Sound (g : Graph) : Type 0 where
  pub some : 1 ≤ g.nodes
  pub few_nodes : g.nodes ≤ 128
  pub few_arrows : length g.arrows ≤ 256
  pub ends : inside g.nodes g.arrows ≡ true

pub record Bounded (g : Graph) (n v : ℕ) (c : Course) : Type 0 where
  pub course : CourseIn (length g.arrows) n c
  pub whole : v < length c.nodes

abbrev pub Bounds : Type 0
Bounds =
    (cmp : Compare) (g : Graph) (n : ℕ) (e : Tree) (v : ℕ) (c : Course) →
    Sound g → keeps n e ≡ true → forward cmp g e ≡ done v c → Bounded g n v c
