-- What is printed of the entries of a course, and of the refusals of a source and of a run, as bytes. Assumes nothing.
--
--   origin_text o    `a0` for source arrow 0, `c0` for constant 0, `-` for none
--   outcome_text o   `yes` where the labels are the same, `no` where they are not
--   node_text n ..   each field after its name, with blanks between them
--   full_text e      the place, the frame and the list's number
--   fault_text e     the refusal's number, and the arrow that it names
use Rattle.std.specs.Prelude.{ℕ, List, ◌++◌, codes}
use Rattle.std.specs.Fmt.{decimal}
use Rattle.course.specs.declared.course.Origin.{Origin}
use Rattle.course.specs.declared.course.Origin.TheVariants.{Blank, Source, Constant}
use Rattle.course.specs.declared.course.Outcome.{Outcome}
use Rattle.course.specs.declared.course.Outcome.TheVariants.{Same, Other}
use Rattle.course.specs.declared.course.Node.{Node}
use Rattle.course.specs.declared.course.Arrow.{Arrow}
use Rattle.course.specs.declared.course.Frame.{Frame}
use Rattle.course.specs.declared.course.Comparison.{Comparison}
use Rattle.course.specs.declared.course.Sizes.{Sizes}
use Rattle.course.specs.declared.course.Full.{Full}
use Rattle.course.specs.declared.source.SourceFault.{SourceFault}
use Rattle.course.specs.declared.source.SourceFault.TheVariants.{Count, End}
use Rattle.course.specs.Course.{list_number}

abbrev pub origin_text : Origin → List ℕ
origin_text Blank = codes "-"
origin_text (Source arrow) = codes "a" ++ decimal arrow
origin_text (Constant constant) = codes "c" ++ decimal constant

abbrev pub outcome_text : Outcome → List ℕ
outcome_text Same = codes "yes"
outcome_text Other = codes "no"

abbrev pub node_text : Node → List ℕ
node_text n = codes "place=" ++ decimal n.place ++ codes " frame=" ++ decimal n.frame ++ codes " marker=" ++ decimal n.marker ++ codes " stands=" ++ decimal n.stands

abbrev pub arrow_text : Arrow → List ℕ
arrow_text a =
    codes "tail=" ++ decimal a.tail ++ codes " head=" ++ decimal a.head ++ codes " origin=" ++ origin_text a.origin ++ codes " place=" ++ decimal a.place
    ++ codes " frame=" ++ decimal a.frame

abbrev pub frame_text : Frame → List ℕ
frame_text f = codes "parent=" ++ decimal f.parent ++ codes " place=" ++ decimal f.place ++ codes " arrow=" ++ decimal f.arrow

abbrev pub comparison_text : Comparison → List ℕ
comparison_text q =
    codes "place=" ++ decimal q.place ++ codes " frame=" ++ decimal q.frame ++ codes " left=" ++ origin_text q.left ++ codes " right=" ++ origin_text q.right
    ++ codes " outcome=" ++ outcome_text q.outcome

abbrev pub sizes_text : Sizes → List ℕ
sizes_text s =
    codes "nodes=" ++ decimal s.nodes ++ codes " arrows=" ++ decimal s.arrows ++ codes " frames=" ++ decimal s.frames ++ codes " comparisons="
    ++ decimal s.comparisons

abbrev pub full_text : Full → List ℕ
full_text e = codes "place=" ++ decimal e.place ++ codes " frame=" ++ decimal e.frame ++ codes " list=" ++ decimal (list_number e.list)

abbrev pub fault_text : SourceFault → List ℕ
fault_text Count = codes "16"
fault_text (End arrow) = codes "17 arrow=" ++ decimal arrow
