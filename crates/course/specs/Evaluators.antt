-- Evaluators: what may be evaluated by one, and what its evaluation does. Assumes nothing.
--
--   Fitting e l p   at the level l, the tree at the place p of the expression of the evaluator e keeps the rules on levels
--   Answers e x ..  a call does what the evaluation of the tree x by e in a frame does
use Rattle.std.specs.Prelude.{◌≡◌, ℕ, true, List, Result}
use Rattle.expression.specs.Admitted.{tree_of}
use Rattle.expression.specs.Forms.{Tree}
use Rattle.expression.specs.Rules.{fits}
use Rattle.course.specs.declared.course.Full.{Full}
use Rattle.course.specs.declared.evaluate.Evaluator.{Evaluator}
use Rattle.course.specs.declared.workspace.Workspace.{Workspace}
use Rattle.course.specs.Labels.{by_class}
use Rattle.course.specs.View.{Evaluates}

abbrev pub Fitting : Evaluator → ℕ → ℕ → Type 0
Fitting e l p = fits e.expression.now.constants l (tree_of e.expression.now p) ≡ true

abbrev pub Answers : Evaluator → Tree → ℕ → Workspace → Workspace → Result (List ℕ) Full → Type 0
Answers e x f w v r = Evaluates (by_class e.classes.now) x e.env f w v r
