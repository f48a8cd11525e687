-- What stays true of a course while entries are added. Assumes nothing.
use Rattle.std.proofs.Common.{◌≡◌, ℕ, zero, suc, ◌<◌, ◌≤◌, List, [], ◌++◌, length, get_or, sym, refl, ap, ◌∙◌, append_assoc, append-nil, arith, length-append}
use Rattle.std.proofs.lemmas.List.{get_or_append_left}
use Rattle.course.specs.declared.course.Arrow.{Arrow}
use Rattle.course.specs.declared.course.Comparison.{Comparison}
use Rattle.course.specs.declared.course.Frame.{Frame}
use Rattle.course.specs.declared.course.Node.{Node}
use Rattle.course.specs.Course.{is_blank_origin, Course}
use Rattle.course.specs.Reach.{lost}
use Rattle.laws.specs.Every.{Every, EveryFrom}
use Rattle.laws.specs.Bounds.{NodeIn, ArrowIn, FrameIn, ComparisonIn}
use Rattle.laws.specs.Extends.{Begins, Extends}
use Rattle.laws.proofs.Everies.{every_to, from_to}

module _ {X : Type 0} where
  abbrev pub begins_same : (xs : List X) → Begins xs xs
  begins_same xs = record { rest = []; is = sym (append-nil xs) }

  abbrev pub begins_more : (xs ys : List X) → Begins xs (xs ++ ys)
  begins_more xs ys = record { rest = ys; is = refl }

  abbrev pub begins_then : (xs ys zs : List X) → Begins xs ys → Begins ys zs → Begins xs zs
  begins_then xs ys zs a b =
      record { rest = a.rest ++ b.rest; is = b.is ∙ ap (λ l. l ++ b.rest) a.is ∙ append_assoc xs a.rest b.rest }

  pub begins_length : (xs ys : List X) → Begins xs ys → length xs ≤ length ys
  begins_length xs ys b =
      let e = length-append xs b.rest in
      let q : length ys ≡ length (xs ++ b.rest) = ap length b.is in
      omega arith

  pub begins_get_or : (xs ys : List X) (k : ℕ) (d : X) → Begins xs ys → k < length xs → get_or ys k d ≡ get_or xs k d
  begins_get_or xs ys k d b h = ap (λ l. get_or l k d) b.is ∙ get_or_append_left xs b.rest d k h

abbrev pub extends_same : (c : Course) → Extends c c
extends_same c = record { nodes = begins_same c.nodes; arrows = begins_same c.arrows; frames = begins_same c.frames; comparisons = begins_same c.comparisons }

abbrev pub extends_then : (c d e : Course) → Extends c d → Extends d e → Extends c e
extends_then c d e a b =
    record {
      nodes = begins_then c.nodes d.nodes e.nodes a.nodes b.nodes;
      arrows = begins_then c.arrows d.arrows e.arrows a.arrows b.arrows;
      frames = begins_then c.frames d.frames e.frames a.frames b.frames;
      comparisons = begins_then c.comparisons d.comparisons e.comparisons a.comparisons b.comparisons;
    }

-- d has the entries of c and maybe more
pub record Grows (c d : Course) : Type 0 where
  pub extends : Extends c d
  pub nodes : length c.nodes ≤ length d.nodes
  pub arrows : length c.arrows ≤ length d.arrows
  pub frames : length c.frames ≤ length d.frames

pub grows : (c d : Course) → Extends c d → Grows c d
grows c d x =
    record {
      extends = x;
      nodes = begins_length c.nodes d.nodes x.nodes;
      arrows = begins_length c.arrows d.arrows x.arrows;
      frames = begins_length c.frames d.frames x.frames;
    }

pub grows_same : (c : Course) → Grows c c
grows_same c = grows c c (extends_same c)

pub grows_then : (c d e : Course) → Grows c d → Grows d e → Grows c e
grows_then c d e a b = grows c e (extends_then c d e a.extends b.extends)

module _ (c d : Course) (g : Grows c d) where
  pub below_up : (vs : List ℕ) → Every (λ v. v < length c.nodes) vs → Every (λ v. v < length d.nodes) vs
  below_up vs h = every_to (λ v. v < length c.nodes) (λ v. v < length d.nodes) (λ v q. omega (arith, g.nodes)) vs h

  pub nodes_up : (i : ℕ) (xs : List Node) → EveryFrom (NodeIn c) i xs → EveryFrom (NodeIn d) i xs
  nodes_up i xs h =
      from_to (NodeIn c) (NodeIn d) (λ k x q. record { frame = omega (arith, g.frames, q.frame); marker = q.marker; stands = q.stands }) i xs h

  pub arrow_up : (s n : ℕ) (a : Arrow) → ArrowIn s n c a → ArrowIn s n d a
  arrow_up s n a q =
      record { tail = omega (arith, g.nodes, q.tail); head = omega (arith, g.nodes, q.head); frame = omega (arith, g.frames, q.frame); origin = q.origin }

  pub arrows_up : (s n : ℕ) (xs : List Arrow) → Every (ArrowIn s n c) xs → Every (ArrowIn s n d) xs
  arrows_up s n xs h = every_to (ArrowIn s n c) (ArrowIn s n d) (arrow_up s n) xs h

  frame_up : (i : ℕ) (x : Frame) → FrameIn c i x → FrameIn d i x
  frame_up zero x q = q
  frame_up (suc i) x q =
      record {
        parent = q.parent;
        arrow = omega (arith, g.arrows, q.arrow);
        labelled = ap (λ (a : Arrow). is_blank_origin a.origin) (begins_get_or c.arrows d.arrows x.arrow lost g.extends.arrows q.arrow) ∙ q.labelled;
      }

  pub frames_up : (i : ℕ) (xs : List Frame) → EveryFrom (FrameIn c) i xs → EveryFrom (FrameIn d) i xs
  frames_up i xs h = from_to (FrameIn c) (FrameIn d) frame_up i xs h

  pub comparisons_up : (s n : ℕ) (xs : List Comparison) → Every (ComparisonIn s n c) xs → Every (ComparisonIn s n d) xs
  comparisons_up s n xs h =
      every_to (ComparisonIn s n c) (ComparisonIn s n d) (λ x q. record { frame = omega (arith, g.frames, q.frame); left = q.left; right = q.right }) xs h
