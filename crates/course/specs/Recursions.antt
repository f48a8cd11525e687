-- A recursion under way: the tables by which its hubs are found, and what its arrows do. Assumes nothing.
--
--   members h       the flags of S, the nodes that the tables h are made for
--   hubs_at h v     the hubs of the node v, as an in-map
--   Numbers ..      h has the hubs of the recursion at the place p in the frame f, of the nodes s for the markers ms,
--                   numbered from n on
--   Stands h n      once there are n nodes, the hubs are among them
--   Ready r n       once there are n nodes, the hubs of the recursion r and what the variables around it stand for are
--                   among them
--   Crosses h a     both ends of the arrow a are nodes that the flags tell of, and its head is in S where its tail is
--   body_of cmp b env h k a    the run of the body b, in the environment env of the recursion, for the arrow a with the
--                   number k
--   turn_of cmp b env h k a    what this arrow does
--   Bodies, Turns   a call does what the run of the body does, or what this arrow does
--   Takes           a call does what the arrows xs do, one after the other
use Rattle.std.specs.Prelude.{◌≡◌, ℕ, ◌+◌, ◌*◌, ◌<◌, ◌≤◌, Bool, true, false, List, get_or, take, Result, slice_index_or}
use Rattle.course.specs.declared.course.Arrow.{Arrow}
use Rattle.course.specs.declared.course.Full.{Full}
use Rattle.course.specs.declared.hub_table.Hubs.{Hubs}
use Rattle.course.specs.declared.recursion.Recursion.{Recursion}
use Rattle.course.specs.declared.workspace.Workspace.{Workspace}
use Rattle.course.specs.declared.environment.Environment.{Environment}
use Rattle.expression.specs.Forms.{Tree}
use Rattle.course.specs.Course.{Step, each_at}
use Rattle.course.specs.Labels.{Compare}
use Rattle.course.specs.Forward.{deeper, run_body, turn, eval}
use Rattle.walks.specs.Reach.{trues}
use Rattle.course.specs.Hubs.{hubs}
use Rattle.course.specs.View.{course_of, Bound, Goes}

abbrev pub members : Hubs → List Bool
members h = take h.first h.marks

abbrev pub hubs_at : Hubs → ℕ → List ℕ
hubs_at h v = hubs (members h) h.set h.first v

pub record Numbers (h : Hubs) (p f : ℕ) (ms : List Bool) (n : ℕ) (s : List Bool) : Type 0 where
  pub place : h.rule.place ≡ p
  pub frame : h.rule.frame ≡ f
  pub set : h.set ≡ ms
  pub first : h.first ≡ n
  pub nodes : members h ≡ s

abbrev pub Stands : Hubs → ℕ → Type 0
Stands h n = h.first + trues (members h) * trues h.set ≤ n

abbrev pub Ready : Recursion → ℕ → Type 0
Ready r n = Bound r.around.now.env n × Stands r.hubs.now n

pub record Crosses (h : Hubs) (a : Arrow) : Type 0 where
  pub tail : a.tail < h.first
  pub head : a.head < h.first
  pub closed : get_or (members h) a.tail false ≡ true → slice_index_or (members h) a.head false ≡ true

abbrev pub body_of : Compare → Tree → Environment → Hubs → ℕ → Arrow → Step (Unit {0})
body_of cmp b env h k a =
    run_body h.rule.place h.rule.frame h.set (hubs_at h a.tail) (hubs_at h a.head) (eval cmp b) (deeper env a.origin a.head) k

abbrev pub turn_of : Compare → Tree → Environment → Hubs → ℕ → Arrow → Step (Unit {0})
turn_of cmp b env h = turn h.rule.place h.rule.frame h.set (members h) h.first (eval cmp b) env

pub record Bodies (cmp : Compare) (b : Tree) (env : Environment) (h : Hubs) (k : ℕ) (a : Arrow) (w v : Workspace) (r : Result (Unit {0}) Full) : Type 0 where
  pub run : Goes (body_of cmp b env h k a (course_of w)) w v r

pub record Turns (cmp : Compare) (b : Tree) (env : Environment) (h : Hubs) (k : ℕ) (a : Arrow) (w v : Workspace) (r : Result (Unit {0}) Full) : Type 0 where
  pub run : Goes (turn_of cmp b env h k a (course_of w)) w v r

pub record Takes (cmp : Compare) (b : Tree) (env : Environment) (h : Hubs) (xs : List Arrow) (w v : Workspace) (r : Result (Unit {0}) Full) : Type 0 where
  pub run : Goes (each_at (turn_of cmp b env h) 0 xs (course_of w)) w v r
