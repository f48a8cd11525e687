use Rattle.std.proofs.Common.{◌≡◌, ◌+◌, ◌<◌, false, ◌≢◌, length, get_or, take, sym, ap, ◌∙◌, arith, rules, below_more}
use Rattle.std.proofs.lemmas.List.{get_or-set_same, get_or-set_other}
use Rattle.walks.specs.Reach.{trues}
use Rattle.course.proofs.Ranks.{counted, trues_more, trues_none, trues_taken}
use Rattle.course.proofs.hubs.rank.Goals as goal

pub loop-v-init : goal.loop-v-init
loop-v-init c = (sym (trues_none c.args.flags.now), λ k h. absurd (omega arith))

pub overflow_add-count : goal.overflow_add-count
overflow_add-count c =
    let m : c.loop-v.count + c.from-count.result ≡ trues (take (c.loop-v.v + 1) c.args.flags.now) =
    ap (λ n. n + c.from-count.result) c.loop-v.invariant.0 ∙ ap (λ n. trues (take c.loop-v.v c.args.flags.now) + n) (c.from-count.ensures ∙ counted (get_or c.args.flags.now c.loop-v.v false)) ∙ sym (trues_more c.args.flags.now c.loop-v.v (search rules)) in
    omega (arith, m, trues_taken c.args.flags.now (c.loop-v.v + 1), c.requires.1)

pub loop-v-preserved : goal.loop-v-preserved
loop-v-preserved c =
    let lt : c.loop-v.v < length c.loop-v.ranks = search rules in (
      ap (λ n. n + c.from-count.result) c.loop-v.invariant.0 ∙ ap (λ n. trues (take c.loop-v.v c.args.flags.now) + n) (c.from-count.ensures ∙ counted (get_or c.args.flags.now c.loop-v.v false)) ∙ sym (trues_more c.args.flags.now c.loop-v.v (search rules)),
      below_more _ _
          (λ k h. let ne : k ≢ c.loop-v.v = omega arith in get_or-set_other c.loop-v.ranks c.loop-v.v k c.loop-v.count 0 ne ∙ c.loop-v.invariant.1 k h)
          (get_or-set_same c.loop-v.ranks c.loop-v.v c.loop-v.count 0 lt ∙ c.loop-v.invariant.0),
    )
