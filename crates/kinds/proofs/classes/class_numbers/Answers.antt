use Rattle.std.proofs.Common.{◌<◌, ◌≢◌, map, length, get_or, set, ◌∙◌, arith, get_or-set_other, get_or-set_same, below_more}
use lib.ListN.{length-map}
use Rattle.std.proofs.lemmas.List.{drop-set-lt}
use Rattle.kinds.specs.Classes.{Class}
use Rattle.kinds.proofs.Places.{nth_map_read, class_of_answer}
use Rattle.kinds.proofs.classes.class_numbers.Goals as goal

pub loop-i-preserved : goal.loop-i-preserved
loop-i-preserved g c =
    let m = g.L.Label.meaning in
    let xs = c.args.labels.now in
    let i = c.loop-i.i in
    let out = c.loop-i.classes in
    let r = c.unwrap_or.result in
    let here : Class (map m xs) i r =
    class_of_answer (map m xs) i _ c.lowest_same.result r (rw length-map c.loop-i-test.true) (nth_map_read m xs i _ c.loop-i-test.true c.index-labels-i.is) c.lowest_same.ensures c.unwrap_or.ensures in
    let lt : i < length out = omega arith in (
      below_more (λ k. Class (map m xs) k (get_or (set out i r) k 0)) i
          (λ k h. let ne : k ≢ i = omega arith in rw get_or-set_other (c.loop-i.invariant.0 k h))
          (rw get_or-set_same here),
      drop-set-lt (length xs) out i _ c.loop-i-test.true ∙ c.loop-i.invariant.1,
    )
