use Rattle.std.proofs.Common.{arith, length-take-le}
use Rattle.expression.specs.Admitted.{tree_of, whole_of}
use Rattle.course.specs.Forward.{forward}
use Rattle.course.specs.Sources.{graph_of}
use Rattle.laws.specs.Labelling.{by_label}
use Rattle.view.specs.View.{seen, long, pictured}
use Rattle.view.proofs.Keeping.{run_laws, label_laws}
use Rattle.view.proofs.Showing.{short_told, too_short, shown_by_classes}
use Rattle.view.proofs.view.View.show.Goals as goal

pub returns-then-labels-arrows : goal.returns-then-labels-arrows
returns-then-labels-arrows g c =
    let source = c.args.source.now in
    let x = c.args.expression.now in
    let labels = c.args.labels.now in
    let constants = c.args.constants.now in
    record {
      answer = short_told (long (graph_of source) x.constants labels constants)
          (pictured (forward (by_label g.L.Label.alike labels constants) (graph_of source) (tree_of x (whole_of x)))) (seen c.args.self.now)
          (too_short (graph_of source) x.constants c.arrows-arrows.result c.constants-fixed.result labels constants c.arrows-arrows.ensures c.constants-fixed.ensures.value c.then-labels-arrows.either);
      run_laws = run_laws;
      label_laws = label_laws g.L.Label.alike g.L.Label.meaning g.met.L.Label.exact;
    }

pub invariant_of-tables : goal.invariant_of-tables
invariant_of-tables g c =
    let source = c.args.source.now in
    record {
      few_labels = omega (arith, length-take-le c.arrows-arrows.result c.args.labels.now c.if-labels-arrows.false, c.arrows-arrows.ensures, source.few_arrows);
      few_constants = omega (arith, length-take-le c.constants-fixed.result c.args.constants.now c.if-constants-fixed.false, c.constants-fixed.ensures.bound);
    }

pub returns : goal.returns
returns g c =
    let x = c.args.expression.now in
    record {
      answer = shown_by_classes g.L.Label.alike g.L.Label.meaning g.met.L.Label.exact c.args.source.now x.constants c.arrows-arrows.result c.constants-fixed.result (tree_of x (whole_of x))
          c.args.labels.now c.args.constants.now c.classes.result (seen c.args.self.now) (seen c.show_run.new.self) c.show_run.result
          x.rules c.arrows-arrows.ensures c.constants-fixed.ensures.value c.if-labels-arrows.false c.if-constants-fixed.false c.classes.ensures c.show_run.ensures;
      run_laws = run_laws;
      label_laws = label_laws g.L.Label.alike g.L.Label.meaning g.met.L.Label.exact;
    }
