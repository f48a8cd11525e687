use Rattle.std.proofs.Common.{◌≡◌, map, length}
use Rattle.std.proofs.lemmas.List.{length-map}
use Rattle.listing.specs.Answers.{meaning_of}
use Rattle.listing.proofs.Lists.{class_after}
use Rattle.listing.proofs.answer.answer_to.Goals as goal

pub returns : goal.returns
returns g c =
    let m = meaning_of g.L.Label.meaning in
    let earlier = c.args.earlier.now in
    let long : length earlier ≡ length (map m earlier) = rw length-map in
    let read = c.in_ok-label.ensures.value in
    (read.0, read.1, class_after (map m earlier) _ _ c.lowest_line.result _ long c.lowest_line.ensures c.unwrap_or-class.ensures)
