use Rattle.std.proofs.Common.{◌≡◌, ◌<◌, ltb, List, ℕ, length, get_or, Some, None, Option, Bor, vec_items, vec_len, sym, ap, ◌∙◌, arith, rules, ⊎_elim}
use Rattle.std.specs.Option.{option_flatten, option_copied, is_some, IfSome}
use Rattle.std.proofs.lemmas.List.{get_or_read, get_or_past, get_or_default}
use Rattle.std.proofs.lemmas.Bool.{cases_lt, ltb-true, lt-ltb, both_ways}
use Rattle.walks.specs.declared.step_table.Step.{Step}
use Rattle.walks.specs.Chains.{no_step, tail_at, latest_of}
use Rattle.walks.specs.Visits.{visiting, visit_one}
use Rattle.walks.proofs.Chains.{latest_read, following_first, step_within, turn_less, turn, followed, outs, outs_exact}
use Rattle.walks.proofs.step_table.StepTableSteps.visit_heads.Goals as goal

-- what is looked up in a list, and None past its end
flattened : (xs : List (Option ℕ)) (i : ℕ) (r : Option (Bor (Option ℕ))) → is_some r ≡ ltb i (length xs) → IfSome r (λ x. x.now ≡ get_or xs i x.now) → option_flatten (option_copied r) ≡ get_or xs i None
flattened xs i None e h = ⊎_elim (λ l. absurd (both_ways (ltb i (length xs)) (sym e) (lt-ltb i (length xs) l))) (λ l. sym (get_or_past xs i None l)) (cases_lt i (length xs))
flattened xs i (Some x) e h = h ∙ get_or_default xs i x.now None (ltb-true i (length xs) (sym e))

pub loop-at-init : goal.loop-at-init
loop-at-init c =
    let t = c.args.self.now in
    let xs = vec_items t.steps in
    let v = c.args.node in
    let e : c.flatten-at.result ≡ get_or t.latest v None = c.flatten-at.ensures ∙ ap option_flatten c.copied.ensures ∙ flattened t.latest v c.get.result c.get.ensures.lookup.0 c.get.ensures.lookup.1 in
    following_first xs v c.flatten-at.result (visiting c.args.visits.now) (e ∙ latest_read xs t.latest (vec_len t.steps) t.steps.ok.0 (search rules) t.latest_out t.inside v)

-- the step that is read
module _ (steps : List Step) (n k : ℕ) (x : Step) (e : n ≡ length steps) (l : k < length steps) (q : x ≡ get_or steps k x) where
  is_step : x ≡ get_or steps k no_step
  is_step = get_or_read steps k x l q no_step

  before_is : ((j : ℕ) → j < n → (get_or steps j no_step).before ≡ latest_of steps (tail_at steps j) j) → x.before ≡ latest_of steps (tail_at steps k) k
  before_is held = ap (λ (s : Step). s.before) is_step ∙ held k (omega arith)

pub loop-at-smaller : goal.loop-at-smaller
loop-at-smaller c =
    let t = c.args.self.now in
    let xs = vec_items t.steps in
    let k = c.in-Some.number in
    let x = c.index-step.result.now in
    let f = c.loop-at.invariant in
    let l = step_within xs c.args.node c.loop-at.at x.before k (visiting c.loop-at.visits) (visiting c.args.visits.now) c.in-Some.is f in
    let q : x ≡ get_or xs k x = cc in
    turn_less xs c.args.node c.loop-at.at x.before k (visiting c.loop-at.visits) (visiting c.args.visits.now) c.in-Some.is f
    (before_is xs (vec_len t.steps) k x t.steps.ok.0 l q t.before_out)

pub loop-at-preserved : goal.loop-at-preserved
loop-at-preserved c =
    let t = c.args.self.now in
    let xs = vec_items t.steps in
    let k = c.in-Some.number in
    let x = c.index-step.result.now in
    let f = c.loop-at.invariant in
    let l = step_within xs c.args.node c.loop-at.at x.before k (visiting c.loop-at.visits) (visiting c.args.visits.now) c.in-Some.is f in
    let q : x ≡ get_or xs k x = cc in
    let h : c.from-in-Some.result ≡ x.head = cc in
    turn xs c.args.node c.loop-at.at x.before k (visiting c.loop-at.visits) (visiting c.args.visits.now) c.in-Some.is f (visiting c.visit.new.self)
    (before_is xs (vec_len t.steps) k x t.steps.ok.0 l q t.before_out)
    (c.visit.ensures ∙ ap (λ n. visit_one n (visiting c.loop-at.visits)) h ∙ ap (λ (s : Step). visit_one s.head (visiting c.loop-at.visits)) (is_step xs (vec_len t.steps) k x t.steps.ok.0 l q))

pub returns : goal.returns
returns c =
    let xs = vec_items c.args.self.now.steps in
    record {
      heads = outs xs c.args.node (length xs);
      exact = λ w. outs_exact xs c.args.node w;
      visited = followed xs c.args.node c.loop-at.at (visiting c.loop-at.visits) (visiting c.args.visits.now) c.in_default.is c.loop-at.invariant;
    }
