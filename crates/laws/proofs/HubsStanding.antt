-- The hubs of a finished recursion stand for the nodes that its argument reaches. Assumes nothing.
use Rattle.std.proofs.Common.{◌≡◌, ℕ, Bool, List, [], length, get_or, sym, refl, ap, ◌∙◌, arith}
use Rattle.expression.specs.Forms.{Tree, ins}
use Rattle.course.specs.declared.course.Node.{Node}
use Rattle.course.specs.declared.environment.Environment.{Environment}
use Rattle.course.specs.Course.{Course, Run, done, full, Step, onward, each_at}
use Rattle.course.specs.Labels.{Compare}
use Rattle.course.specs.Hubs.{hubs}
use Rattle.walks.specs.Reach.{In}
use Rattle.course.specs.Reach.{reached}
use Rattle.course.specs.Forward.{Maps, maps, hubs_step, turn, recur, eval}
use Rattle.laws.specs.Extends.{Extends}
use Rattle.laws.specs.Recursion.{members, nodes_reached, hub_of, hub_node, HubsMade, HubsStand}
use Rattle.laws.proofs.Growing.{begins_get_or}
use Rattle.laws.proofs.Members.{in_members, members_ascending}
use Rattle.laws.proofs.Recursing.{hubs_entered, hubs_at}
use Rattle.laws.proofs.HubMaking.{hubs_exact}
use Rattle.laws.proofs.Recording.{kept_extends, good_eval, good_turn, good_each_at}

-- what a finished step after another came from
pub record Came {X Y : Type 0} (run : Run X) (k : X → Step Y) (y : Y) (d : Course) : Type 0 where
  pub answer : X
  pub course : Course
  pub first : run ≡ done answer course
  pub then : k answer course ≡ done y d

came : {X Y : Type 0} (run : Run X) (k : X → Step Y) (y : Y) (d : Course) → onward run k ≡ done y d → Came run k y d
came (done x c) k y d h = record { answer = x; course = c; first = refl; then = h }
came (full e) k y d h = absurd (let z : ◌≡◌ {A = ℕ} 0 1 = cc in omega arith)

-- what a finished recursion left, from the argument's node r on
pub record Left (p f : ℕ) (ms : List Bool) (r : ℕ) (c : Course) (into : List ℕ) (d : Course) : Type 0 where
  pub hub : (v k : ℕ) → In v (nodes_reached c r) → In k (members 0 ms) → (none : Node) →
      get_or d.nodes (hub_of (length c.nodes) (nodes_reached c r) (members 0 ms) v k) none ≡ hub_node p f v k
  pub maps_to : into ≡ hubs (reached (length c.nodes) c.arrows r) ms (length c.nodes) r

left : (cmp : Compare) (p f : ℕ) (b : Tree) (ms : List Bool) (env : Environment) (r : ℕ) (c : Course) (into : List ℕ) (d : Course) →
    recur p f ms (eval cmp b) env r c ≡ done into d → Left p f ms r c into d
unfolding recur
left cmp p f b ms env r c into d h =
    let s = reached (length c.nodes) c.arrows r in
    let made = came (each_at (hubs_step p f ms) 0 s c) _ into d h in
    let taken = came (each_at (turn p f ms s (length c.nodes) (eval cmp b) env) 0 c.arrows made.course) _ into d made.then in
    let new : HubsMade p f (members 0 s) (members 0 ms) c made.course =
    hubs_exact p f (members 0 s) (members 0 ms) c made.course (members_ascending 0 s) (members_ascending 0 ms) (sym (hubs_entered p f s ms c) ∙ made.first) in
    let same : taken.course ≡ d = let q = taken.then in cc in
    let more : Extends made.course taken.course =
    kept_extends cmp cmp made.course tt taken.course _ _
    (good_each_at cmp cmp _ _ (good_turn cmp cmp p f ms s (length c.nodes) (eval cmp b) (eval cmp b) (λ inner g. good_eval cmp cmp b inner g) env) 0 c.arrows made.course)
    taken.first in
    record {
      hub = λ v k i j none.
          ap (λ (x : Course). get_or x.nodes (hub_of (length c.nodes) (nodes_reached c r) (members 0 ms) v k) none) (sym same)
          ∙ begins_get_or made.course.nodes taken.course.nodes (hub_of (length c.nodes) (nodes_reached c r) (members 0 ms) v k) none more.nodes (new.there v k i j)
          ∙ new.hub v k i j none;
      maps_to = let q = taken.then in cc;
    }

pub hubs_stand : HubsStand
unfolding eval
hubs_stand cmp p f b a env c m d h =
    let ran = came (eval cmp a env f c) _ m d h in
    let r = get_or ran.answer.into 0 0 in
    let s = reached (length ran.course.nodes) ran.course.arrows r in
    let done' = came (recur p f (ins b) (eval cmp b) env r ran.course) _ m d ran.then in
    let l = left cmp p f b (ins b) env r ran.course done'.answer done'.course done'.first in
    let same : done'.course ≡ d = let q = done'.then in cc in
    let answer : maps done'.answer [] ≡ m = let q = done'.then in cc in
    record {
      argument = ran.answer;
      before = ran.course;
      first = ran.first;
      hub = λ v k i j none.
          ap (λ (x : Course). get_or x.nodes (hub_of (length ran.course.nodes) (nodes_reached ran.course r) (members 0 (ins b)) v k) none) (sym same)
          ∙ l.hub v k i j none;
      into = λ k j.
          ap (λ (x : Maps). get_or x.into k 0) (sym answer)
          ∙ ap (λ x. get_or x k 0) l.maps_to
          ∙ hubs_at s (ins b) (length ran.course.nodes) r k (in_members k (ins b) j);
      outs = ap (λ (x : Maps). x.outs) (sym answer);
    }
