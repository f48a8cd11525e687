-- A whole run: its start, and its two ends. Assumes nothing.
use Rattle.std.proofs.Common.{◌≡◌, ℕ, List, length, get_or, Ok, Err, sym, ap, ◌∙◌, subst, arith}
use Rattle.expression.specs.Forms.{Tree}
use Rattle.course.specs.declared.workspace.Workspace.{Workspace}
use Rattle.course.specs.declared.source.Source.{Source}
use Rattle.course.specs.declared.environment.Environment.{Environment}
use Rattle.course.specs.declared.course.Full.{Full}
use Rattle.course.specs.Course.{Course, Run, onward, give}
use Rattle.course.specs.Labels.{Compare}
use Rattle.course.specs.Sources.{Graph, graph_of}
use Rattle.course.specs.Opening.{opening, no_course}
use Rattle.course.specs.Forward.{Maps, outermost, eval, forward}
use Rattle.course.specs.View.{course_of, size, Bound, Evaluates, Ran}
use Rattle.course.proofs.Maps.{bound_outermost}
use Rattle.course.proofs.Openings.{nodes_long}

-- the root is there, and so is what the outermost environment has
pub rooted : (w : Workspace) (s : Source) (env : Environment) → course_of w ≡ opening (graph_of s) → env ≡ outermost → Bound env (size w)
rooted w s env e h =
    let n : size w ≡ s.nodes = w.nodes.ok.0 ∙ ap (λ (c : Course). length c.nodes) e ∙ nodes_long 0 s.nodes in
    subst (λ (x : Environment). Bound x (size w)) (sym h) (bound_outermost (size w) (omega (arith, n, s.some)))

abbrev whole_node : Run Maps → Run ℕ
whole_node run = onward run (λ m. give (get_or m.into 0 0))

from_opening : (cmp : Compare) (x : Tree) (w : Workspace) (g : Graph) (env : Environment) → course_of w ≡ opening g → env ≡ outermost
    → forward cmp g x ≡ whole_node (eval cmp x env 0 (course_of w))
unfolding forward
from_opening cmp x w g env e h =
    ap (λ (c : Course). whole_node (eval cmp x outermost 0 c)) (sym e) ∙ ap (λ (y : Environment). whole_node (eval cmp x y 0 (course_of w))) (sym h)

pub ran_done : {cmp : Compare} {x : Tree} {env : Environment} {w v : Workspace} {into : List ℕ} (g : Graph) (y : Tree)
    → x ≡ y → course_of w ≡ opening g → env ≡ outermost → Evaluates cmp x env 0 w v (Ok into) → Ran (forward cmp g y) v (Ok (get_or into 0 0))
ran_done {cmp} {x} {env} {w} {v} g y q e h ev =
    record { told = (ap (forward cmp g) (sym q) ∙ from_opening cmp x w g env e h ∙ ap whole_node ev.run.told.1, omega (arith, ev.run.told.4 0, v.nodes.ok.0)) }

pub ran_full : {cmp : Compare} {x : Tree} {env : Environment} {w v : Workspace} {f : Full} (g : Graph) (y : Tree) (z : Workspace)
    → x ≡ y → course_of w ≡ opening g → env ≡ outermost → Evaluates cmp x env 0 w v (Err f) → course_of z ≡ no_course → Ran (forward cmp g y) z (Err f)
ran_full {cmp} {x} {env} {w} g y z q e h ev n =
    record { told = (ap (forward cmp g) (sym q) ∙ from_opening cmp x w g env e h ∙ ap whole_node ev.run.told, n) }
