use Rattle.std.proofs.Common.{get_or, ap, ◌∙◌, arith, rules}
use Rattle.course.specs.Forward.{tie}
use Rattle.course.specs.View.{stack}
use Rattle.course.proofs.Maps.{goes_exit, each_more, each_stops, each_none}
use Rattle.course.proofs.workspace.Workspace.tie_outs.Goals as goal

pub returns-in_err-tie_out : goal.returns-in_err-tie_out
returns-in_err-tie_out c =
    goes_exit c.from_residual.result c.from_residual.ensures.1
    (c.loop-i.invariant.0
    ∙ each_stops (tie c.args.rule.place c.args.rule.frame c.args.set c.args.into) (stack c.args.self.now) c.loop-i.i c.args.mid c.index-out.result.now
    c.loop-i-test.true (omega (arith, c.args.self.now.outs.ok.0, c.requires.end)) (c.index-out.ensures ∙ ap (λ s. get_or s c.loop-i.i c.index-out.result.now) c.loop-i.invariant.1) c.in_err-tie_out.ensures.told)

pub loop-i-preserved : goal.loop-i-preserved
loop-i-preserved c = (
  c.loop-i.invariant.0
      ∙ each_more (tie c.args.rule.place c.args.rule.frame c.args.set c.args.into) (stack c.args.self.now) c.loop-i.i c.args.mid c.index-out.result.now
      c.loop-i-test.true (omega (arith, c.args.self.now.outs.ok.0, c.requires.end)) (c.index-out.ensures ∙ ap (λ s. get_or s c.loop-i.i c.index-out.result.now) c.loop-i.invariant.1) c.in_ok-tie_out.ensures.told.0,
  c.in_ok-tie_out.ensures.told.1 ∙ c.loop-i.invariant.1,
  omega (arith, c.in_ok-tie_out.ensures.told.2, c.loop-i.invariant.2),
)

pub returns : goal.returns
returns c =
    record {
      told = (
        c.loop-i.invariant.0
            ∙ each_none (tie c.args.rule.place c.args.rule.frame c.args.set c.args.into) (stack c.args.self.now) c.loop-i.i c.args.mid (search rules),
        c.loop-i.invariant.1,
        c.loop-i.invariant.2,
      );
    }
