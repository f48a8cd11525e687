use Rattle.std.proofs.Common.{◌<◌, ◌++◌, ◌∷◌, [], List, ℕ, length, get_or, sym, ap, ◌∙◌, arith}
use Rattle.walks.specs.Tables.{steps_of}
use Rattle.walks.proofs.Tables.{added}
use Rattle.course.specs.Reach.{ends}
use Rattle.rows.specs.Links.{none}
use Rattle.rows.proofs.Linking.{blanks_more, blanks_same, few_blanks}
use Rattle.rows.proofs.blanks.link.Goals as goal
use Rattle.rows.proofs.blanks.link.Goals.{then-is_blank, else-is_blank}

pub loop-arrow-preserved : goal.loop-arrow-preserved
loop-arrow-preserved c =
    let arrows = c.args.arrows.now in
    let k = c.loop-arrow.arrow-index in
    let l = c.loop-arrow-test.true in
    let a = get_or arrows k none in
    let few : length (steps_of c.loop-arrow.table) < 2048 = omega (arith, ap length c.loop-arrow.invariant, few_blanks arrows k l, c.requires.count) in
    elim c.if-is_blank.branch [
      | then-is_blank w ↦
          ap steps_of w.table-is
          ∙ added (steps_of c.loop-arrow.table) (steps_of w.add.new.self) w.add.result a.tail a.head w.add.ensures.value w.add.ensures.steps few (c.requires.tails k l) (c.requires.heads k l)
          ∙ ap (λ (s : List (ℕ × ℕ)). s ++ ends a ∷ []) c.loop-arrow.invariant ∙ sym (blanks_more arrows k l (sym w.if-is_blank.ensures))
      | else-is_blank w ↦ ap steps_of w.table-is ∙ c.loop-arrow.invariant ∙ sym (blanks_same arrows k l (sym w.if-is_blank.ensures))
    ]
