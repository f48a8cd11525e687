use Rattle.std.proofs.Common.{◌≡◌, ◌+◌, ◌*◌, ◌≤◌, take, vec_items, vec_len}
use Rattle.expression.specs.Admitted.{tree_of}
use Rattle.course.specs.Labels.{by_class}
use Rattle.course.specs.Recursions.{turn_of}
use Rattle.course.proofs.Loops.{Going}
use Rattle.course.proofs.+evaluation.Given as goal

abbrev pub decreases-evaluate::Evaluator::evaluate : goal.decreases-evaluate::Evaluator::evaluate
decreases-evaluate::Evaluator::evaluate l = 7 * l.place + 6

abbrev pub decreases-evaluate::Evaluator::append : goal.decreases-evaluate::Evaluator::append
decreases-evaluate::Evaluator::append l = 7 * l.rule.place + 5

abbrev pub decreases-evaluate::Evaluator::recur : goal.decreases-evaluate::Evaluator::recur
decreases-evaluate::Evaluator::recur l = 7 * l.rule.place + 5

abbrev pub decreases-recursion::Recursion::take_arrows : goal.decreases-recursion::Recursion::take_arrows
decreases-recursion::Recursion::take_arrows l = 7 * l.self.now.body + 9

abbrev pub decreases-recursion::Recursion::take_arrow : goal.decreases-recursion::Recursion::take_arrow
decreases-recursion::Recursion::take_arrow l = 7 * l.self.now.body + 8

abbrev pub decreases-recursion::Recursion::run_body : goal.decreases-recursion::Recursion::run_body
decreases-recursion::Recursion::run_body l = 7 * l.self.now.body + 7

-- the arrows so far have had their turns, and the first arrows are as they were
abbrev pub invariant-recursion::Recursion::take_arrows-loop-k : goal.invariant-recursion::Recursion::take_arrows-loop-k
invariant-recursion::Recursion::take_arrows-loop-k l =
    record {
      going : Going (turn_of (by_class l.self.around.now.classes.now) (tree_of l.self.around.now.expression.now l.self.body) l.self.around.now.env l.self.hubs.now)
          (take l.count (vec_items l.initial.work.arrows)) l.k l.initial.work l.work;
      same : take l.count (vec_items l.work.arrows) ≡ take l.count (vec_items l.initial.work.arrows);
      known : l.count ≤ vec_len l.work.arrows;
    }
