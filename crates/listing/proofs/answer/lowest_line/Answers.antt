use Rattle.std.proofs.Common.{Some, sym, ap, ◌∙◌, arith, below_more}
use lib.ListN.{length-map}
use Rattle.kinds.proofs.Places.{nth_map_read, some_back, not_both}
use Rattle.listing.specs.Answers.{meaning_of}
use Rattle.listing.proofs.answer.lowest_line.Goals as goal

pub returns-then-is_label : goal.returns-then-is_label
returns-then-is_label g c =
    let m = meaning_of g.L.Label.meaning in
    let here = nth_map_read m c.args.answers.now c.loop-i.i _ c.loop-i-test.true c.index-answers-i.is in
    (here ∙ ap (λ y. Some y) (c.is_label.ensures.0 c.if-is_label.true), c.loop-i.invariant)

pub loop-i-preserved : goal.loop-i-preserved
loop-i-preserved g c =
    let m = meaning_of g.L.Label.meaning in
    let here = nth_map_read m c.args.answers.now c.loop-i.i _ c.loop-i-test.true c.index-answers-i.is in
    below_more _ _ c.loop-i.invariant (λ e. not_both c.if-is_label.false (c.is_label.ensures.1 (some_back (sym here ∙ e))))

pub returns : goal.returns
returns g c = λ k h. c.loop-i.invariant k (omega (arith, rw length-map at h))
