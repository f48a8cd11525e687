use Rattle.std.proofs.Common.{map, vec_items}
use Rattle.listing.specs.Answers.{Listed}
use Rattle.listing.proofs.answer.list_labels.Given as goal

-- the lines so far are answered
abbrev pub invariant-loop-line : goal.invariant-loop-line
invariant-loop-line g l =
    let f = g.L.FiledLabel in Listed f.text f.made f.refusal g.L.Label.meaning (map (λ line. line.now) l.yielded) (vec_items l.answers)
