use Rattle.std.proofs.Common.{ap, ◌∙◌}
use Rattle.expression.specs.Admitted.{tree_of, whole_of}
use Rattle.expression.specs.Rules.{fits}
use Rattle.course.specs.declared.environment.Environment.{Environment}
use Rattle.course.specs.Sources.{graph_of}
use Rattle.course.proofs.Fits.{keeps_fits}
use Rattle.course.proofs.Runs.{rooted, ran_done, ran_full}
use Rattle.course.proofs.workspace.Workspace.run.Goals as goal

pub evaluate-requires : goal.evaluate-requires
evaluate-requires c =
    let x = c.args.expression.now in
    let tree = tree_of x c.whole.result in
    let e = c.outermost.ensures in
    record {
      fitting = ap (λ (y : Environment). fits x.constants y.level tree) e ∙ keeps_fits x.constants tree c.whole.ensures.rules;
      bound = rooted c.enter_source.new.self c.args.source.now c.outermost.result c.enter_source.ensures.course e;
    }

pub returns-in-Ok : goal.returns-in-Ok
returns-in-Ok c =
    let x = c.args.expression.now in
    ran_done (graph_of c.args.source.now) (tree_of x (whole_of x)) (ap (tree_of x) c.whole.ensures.value) c.enter_source.ensures.course c.outermost.ensures c.in-Ok.ensures

pub returns-in-Err : goal.returns-in-Err
returns-in-Err c =
    let x = c.args.expression.now in
    ran_full (graph_of c.args.source.now) (tree_of x (whole_of x)) c.clear.new.self (ap (tree_of x) c.whole.ensures.value) c.enter_source.ensures.course c.outermost.ensures c.in-Err.ensures c.clear.ensures.course
