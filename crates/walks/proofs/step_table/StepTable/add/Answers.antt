use Rattle.std.proofs.Common.{get_or, None, vec_items, vec_len, sym, ap, ◌∙◌, arith, rules}
use Rattle.walks.specs.declared.step_table.Step.{Step}
use Rattle.walks.specs.Chains.{latest_of}
use Rattle.walks.proofs.Chains.{latest_grown, before_grown, inside_grown}
use Rattle.walks.proofs.step_table.StepTable.add.Goals as goal

-- the step that is added
abbrev added : goal.After-push_reserved → Step
added c = record { tail = c.args.tail; head = c.args.head; before = get_or c.args.self.now.latest c.args.tail None }

pub invariant_of-self-clause-inside : goal.invariant_of-self-clause-inside
invariant_of-self-clause-inside c =
    let t = c.args.self.now in
    inside_grown (vec_items t.steps) (added c) (vec_len t.steps) (vec_items c.push_reserved.new.self) t.steps.ok.0 c.push_reserved.ensures.items
    c.if-tail-lt-NODES.true c.if-head-lt-NODES.true t.inside

pub invariant_of-self-clause-latest_out : goal.invariant_of-self-clause-latest_out
invariant_of-self-clause-latest_out c =
    let t = c.args.self.now in
    let n = c.len-number.ensures in
    latest_grown (vec_items t.steps) (added c) c.len-number.result (vec_items c.push_reserved.new.self) (n ∙ t.steps.ok.0) c.push_reserved.ensures.items
    t.latest (vec_len c.push_reserved.new.self) (omega arith) (search rules) (λ v l. t.latest_out v l ∙ sym (ap (latest_of (vec_items t.steps) v) n))

pub invariant_of-self-clause-before_out : goal.invariant_of-self-clause-before_out
invariant_of-self-clause-before_out c =
    let t = c.args.self.now in
    before_grown (vec_items t.steps) (added c) (vec_len t.steps) (vec_items c.push_reserved.new.self) t.steps.ok.0 c.push_reserved.ensures.items
    (vec_len c.push_reserved.new.self) (omega arith) (t.latest_out c.args.tail c.if-tail-lt-NODES.true) t.before_out
