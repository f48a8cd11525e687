use Rattle.std.proofs.Common.{◌≡◌, ◌≢◌, true, length, sym, refl, ◌∙◌, arith, length-set, rules}
use Rattle.std.proofs.lemmas.List.{get_or-set_other}
use Rattle.course.specs.Forward.{joint}
use Rattle.course.specs.View.{course_of, size}
use Rattle.course.proofs.Maps.{makes_exit, nodes_first, nodes_more, nodes_past, nodes_stops, nodes_none, wider, set_within, empty_within}
use Rattle.course.proofs.workspace.Workspace.join.Goals.{then-on+in_ok-into, else-on}
use Rattle.course.proofs.workspace.Workspace.join.Goals as goal

pub loop-marker-init : goal.loop-marker-init
loop-marker-init c =
    record {
      run = nodes_first _;
      stands = refl;
      grows = omega arith;
      within = empty_within (size c.args.self.now) (omega (arith, c.requires.left 0));
      long = refl;
      rest = search rules;
    }

pub returns-in_err-into : goal.returns-in_err-into
returns-in_err-into c =
    let long : length c.args.set ≡ 8 = search rules in
    makes_exit c.from_residual.result c.from_residual.ensures.1
    (c.loop-marker.invariant.run
    ∙ nodes_stops (joint c.args.rule.place c.args.rule.frame c.args.left c.args.right) c.args.set c.loop-marker.marker true c.loop-marker.into (course_of c.loop-marker.self) (omega arith) (sym c.if-on.true) c.in_err-into.ensures.told)

pub loop-marker-preserved : goal.loop-marker-preserved
loop-marker-preserved c =
    let set : length c.args.set ≡ 8 = search rules in
    let i = c.loop-marker.invariant in
    let m = c.loop-marker.marker in
    let v = c.loop-marker.self in
    let into = c.loop-marker.into in
    let step = joint c.args.rule.place c.args.rule.frame c.args.left c.args.right in
    elim c.if-on.branch [
      | then-on+in_ok-into w ↦
          let t = w.in_ok-into.ensures.told in
          let u = w.join_one.new.self in
          let n = w.in_ok-into.field-0 in
          rw (w.self-is, w.into-is) (record {
            run = i.run ∙ nodes_more step c.args.set m true into n (course_of v) (course_of u) (omega arith) (sym w.if-on.true) (omega (arith, i.long)) t.0;
            stands = t.1 ∙ i.stands;
            grows = omega (arith, t.2, i.grows);
            within = set_within (size u) m n into t.3 (wider (size v) (size u) into t.2 i.within);
            long = length-set into m n ∙ i.long;
            rest = λ k h. let ne : k ≢ m = omega arith in get_or-set_other into m k n 0 ne ∙ i.rest k (omega arith);
          })
      | else-on w ↦
          rw (w.self-is, w.into-is) (record {
            run = i.run ∙ nodes_past step c.args.set m into (course_of v) (omega arith) w.if-on.false (omega (arith, i.long)) (i.rest m (omega arith));
            stands = i.stands;
            grows = i.grows;
            within = i.within;
            long = i.long;
            rest = λ k h. i.rest k (omega arith);
          })
    ]

pub returns : goal.returns
returns c =
    let set : length c.args.set ≡ 8 = search rules in
    let i = c.loop-marker.invariant in
    record {
      told = (
        i.run ∙ nodes_none (joint c.args.rule.place c.args.rule.frame c.args.left c.args.right) c.args.set c.loop-marker.marker c.loop-marker.into (course_of c.loop-marker.self) (omega arith) (omega (arith, i.long)),
        i.stands,
        i.grows,
        i.within,
      );
    }
