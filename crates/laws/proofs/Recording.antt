-- What each step of a run does with comparisons. Assumes nothing.
use Rattle.std.proofs.Common.{◌≡◌, ℕ, suc, Bool, true, false, cond, ltb, List, [], ◌∷◌, ◌++◌, length, get_or, sym, refl, ap, ◌∙◌, subst, append-nil, arith}
use Rattle.expression.specs.Forms.{Tree, t_zero, t_node, t_edge, t_union, t_mark, t_out, t_disjoint, t_append, t_graph, t_if, t_recursion, ins}
use Rattle.course.specs.declared.course.Node.{Node}
use Rattle.course.specs.declared.course.Arrow.{Arrow}
use Rattle.course.specs.declared.course.Frame.{Frame}
use Rattle.course.specs.declared.course.Comparison.{Comparison}
use Rattle.course.specs.declared.course.Full.{Full}
use Rattle.course.specs.declared.course.ListName.TheVariants.{Comparisons}
use Rattle.course.specs.declared.course.Origin.{Origin}
use Rattle.course.specs.declared.course.Outcome.{Outcome}
use Rattle.course.specs.declared.course.Outcome.TheVariants.{Same, Other}
use Rattle.course.specs.declared.environment.Environment.{Environment}
use Rattle.course.specs.declared.environment.Out.{Out}
use Rattle.course.specs.Course.{is_blank_origin, Course, Run, done, full, Step, onward, give, ◌>>=◌, ◌>>◌, branch, full_at, enter_node, enter_arrow, enter_frame, enter_comparison, new_node, each, each_at, nodes_for}
use Rattle.course.specs.Labels.{Compare}
use Rattle.course.specs.Sources.{Graph}
use Rattle.course.specs.Opening.{opening}
use Rattle.course.specs.Forward.{Maps, deeper, labelled, joint, tie, compared, chosen, hub_step, hubs_step, link_at, run_body, turn, recur, eval, outermost, forward}
use Rattle.laws.specs.Every.{Every}
use Rattle.laws.specs.Recorded.{Holds, Recorded, SameCourse}
use Rattle.laws.specs.Extends.{Begins, Extends, OnlyAdds}
use Rattle.laws.proofs.Everies.{every_join, every_left, every_right}
use Rattle.laws.proofs.Growing.{begins_same, begins_more, extends_then}

module _ (first second : Compare) where
  -- from c on, one run has only added entries where it is done; its comparisons hold in the first way to compare, and
  -- where they hold in the second, the other run is done too and has come to the same
  pub data Kept {X : Type 0} (c : Course) : Run X → Run X → Type 0 where
    kept : {x : X} {d : Course} {other : Run X} (added : Extends c d) → Every (Holds first) added.comparisons.rest →
        (Every (Holds second) added.comparisons.rest → other ≡ done x d) → Kept c (done x d) other
    stopped : {e : Full} {other : Run X} → Kept c (full e) other

  -- the same step under the two ways to compare
  abbrev pub Good : {X : Type 0} → Step X → Step X → Type 0
  Good m n = (c : Course) → Kept c (m c) (n c)

  kept_on : {X : Type 0} (c d : Course) (added : Extends c d) → Every (Holds first) added.comparisons.rest →
      (run same other : Run X) → Kept d run same → (Every (Holds second) added.comparisons.rest → other ≡ same) → Kept c run other
  kept_on c d added h (done x e) same other (kept more h' a) t =
      kept (extends_then c d e added more)
      (every_join (Holds first) added.comparisons.rest more.comparisons.rest h h')
      (λ q. t (every_left (Holds second) added.comparisons.rest more.comparisons.rest q) ∙ a (every_right (Holds second) added.comparisons.rest more.comparisons.rest q))
  kept_on c d added h (full e) same other stopped t = stopped

  kept_onward : {X Y : Type 0} (c : Course) (run other : Run X) (k l : X → Step Y) → Kept c run other → ((x : X) → Good (k x) (l x)) →
      Kept c (onward run k) (onward other l)
  kept_onward c (done x d) other k l (kept added h a) t =
      kept_on c d added h (k x d) (l x d) (onward other l) (t x d) (λ q. ap (λ r. onward r l) (a q))
  kept_onward c (full e) other k l stopped t = stopped

  -- a step that adds no comparison
  kept_none : {X : Type 0} (c d : Course) (x : X) → Begins c.nodes d.nodes → Begins c.arrows d.arrows → Begins c.frames d.frames →
      d.comparisons ≡ c.comparisons → Kept c (done x d) (done x d)
  kept_none c d x nodes arrows frames e =
      kept (record { nodes = nodes; arrows = arrows; frames = frames; comparisons = record { rest = []; is = e ∙ sym (append-nil c.comparisons) } }) tt (λ q. refl)

  kept_cond : {X : Type 0} (c : Course) (b : Bool) (run other : Run X) → Kept c run run → Kept c other other → Kept c (cond b run other) (cond b run other)
  kept_cond c true run other h t = h
  kept_cond c false run other h t = t

  good_give : {X : Type 0} (x : X) → Good (give x) (give x)
  good_give x c = kept_none c c x (begins_same _) (begins_same _) (begins_same _) refl

  good_bind : {X Y : Type 0} (m n : Step X) (k l : X → Step Y) → Good m n → ((x : X) → Good (k x) (l x)) → Good (m >>= k) (n >>= l)
  good_bind m n k l h t c = kept_onward c (m c) (n c) k l (h c) t

  good_then : {X Y : Type 0} (m n : Step X) (k l : Step Y) → Good m n → Good k l → Good (m >> k) (n >> l)
  good_then m n k l h t c = kept_onward c (m c) (n c) (λ x. k) (λ x. l) (h c) (λ x. t)

  good_branch : {X : Type 0} (b : Bool) (m n k l : Step X) → Good m n → Good k l → Good (branch b m k) (branch b n l)
  good_branch true m n k l h t c = h c
  good_branch false m n k l h t c = t c

  good_node : (n : Node) → Good (enter_node n) (enter_node n)
  unfolding enter_node
  good_node n c = kept_cond c _ _ _ (kept_none c _ _ (begins_more _ _) (begins_same _) (begins_same _) refl) stopped

  good_arrow : (a : Arrow) → Good (enter_arrow a) (enter_arrow a)
  unfolding enter_arrow
  good_arrow a c = kept_cond c _ _ _ (kept_none c _ _ (begins_same _) (begins_more _ _) (begins_same _) refl) stopped

  good_frame : (p f : ℕ) (n : Frame) → Good (enter_frame p f n) (enter_frame p f n)
  unfolding enter_frame
  good_frame p f n c = kept_cond c _ _ _ (kept_none c _ _ (begins_same _) (begins_same _) (begins_more _ _) refl) stopped

  good_new : (p f m : ℕ) → Good (new_node p f m) (new_node p f m)
  good_new p f m c = good_node (record { place = p; frame = f; marker = m; stands = length c.nodes }) c

  good_each : {X : Type 0} (s t : X → Step (Unit {0})) → ((x : X) → Good (s x) (t x)) → (xs : List X) → Good (each s xs) (each t xs)
  unfolding each
  good_each s t h [] = good_give tt
  good_each s t h (x ∷ xs) = good_then (s x) (t x) (each s xs) (each t xs) (h x) (good_each s t h xs)

  pub good_each_at : {X : Type 0} (s t : ℕ → X → Step (Unit {0})) → ((i : ℕ) (x : X) → Good (s i x) (t i x)) → (i : ℕ) (xs : List X) → Good (each_at s i xs) (each_at t i xs)
  unfolding each_at
  good_each_at s t h i [] = good_give tt
  good_each_at s t h i (x ∷ xs) = good_then (s i x) (t i x) (each_at s (suc i) xs) (each_at t (suc i) xs) (h i x) (good_each_at s t h (suc i) xs)

  good_nodes : (s : ℕ → Step ℕ) → ((i : ℕ) → Good (s i) (s i)) → (i : ℕ) (bs : List Bool) → Good (nodes_for s i bs) (nodes_for s i bs)
  unfolding nodes_for
  good_nodes s h i [] = good_give []
  good_nodes s h i (b ∷ bs) =
      good_bind (branch b (s i) (give 0)) _ (λ v. nodes_for s (suc i) bs >>= λ vs. give (v ∷ vs)) _ (good_branch b (s i) (s i) (give 0) (give 0) (h i) (good_give 0))
      (λ v. good_bind (nodes_for s (suc i) bs) _ (λ vs. give (v ∷ vs)) _ (good_nodes s h (suc i) bs) (λ vs. good_give (v ∷ vs)))

  good_labelled : (p f : ℕ) (o : Origin) (t : ℕ) → Good (labelled p f o t) (labelled p f o t)
  unfolding labelled
  good_labelled p f o t = good_bind _ _ _ _ (good_new p f 0) (λ v. good_then _ _ _ _ (good_arrow _) (good_give v))

  good_joint : (p f : ℕ) (a b : List ℕ) (m : ℕ) → Good (joint p f a b m) (joint p f a b m)
  unfolding joint
  good_joint p f a b m = good_bind _ _ _ _ (good_new p f m) (λ v. good_then _ _ _ _ (good_arrow _) (good_then _ _ _ _ (good_arrow _) (good_give v)))

  good_tie : (p f : ℕ) (ms : List Bool) (into : List ℕ) (o : Out) → Good (tie p f ms into o) (tie p f ms into o)
  good_tie p f ms into o = good_branch (get_or ms o.marker false) _ _ _ _ (good_arrow _) (good_give tt)

  good_link : (p f : ℕ) (tails heads : List ℕ) (m : ℕ) (b : Bool) → Good (link_at p f tails heads m b) (link_at p f tails heads m b)
  good_link p f tails heads m b = good_branch b _ _ _ _ (good_arrow _) (good_give tt)

  good_hub : (p f v m : ℕ) (b : Bool) → Good (hub_step p f v m b) (hub_step p f v m b)
  good_hub p f v m b = good_branch b _ _ _ _ (good_then _ _ _ _ (good_node _) (good_give tt)) (good_give tt)

  good_hubs : (p f : ℕ) (ms : List Bool) (v : ℕ) (b : Bool) → Good (hubs_step p f ms v b) (hubs_step p f ms v b)
  good_hubs p f ms v b = good_branch b _ _ _ _ (good_each_at _ _ (good_hub p f v) 0 ms) (good_give tt)

  -- the two runs of a comparison, once it is written down
  good_chosen : {X : Type 0} (o : Outcome) (m n k l : Step X) → Good m n → Good k l → Good (chosen o m k) (chosen o n l)
  good_chosen Same m n k l h t c = h c
  good_chosen Other m n k l h t c = t c

  abbrev comparing : ℕ → ℕ → Origin → Origin → Outcome → Course → Course
  comparing p f a b o c =
      record {
        nodes = c.nodes;
        arrows = c.arrows;
        frames = c.frames;
        comparisons = c.comparisons ++ record { place = p; frame = f; left = a; right = b; outcome = o } ∷ [];
      }

  kept_told : {X : Type 0} (p f : ℕ) (a b : Origin) (m n k l : Step X) → Good m n → Good k l → (c : Course) (t : Bool) →
      Kept c
      (onward (cond t (done tt (comparing p f a b (first a b) c)) (full (full_at p f Comparisons))) (λ (y : Unit {0}). chosen (first a b) m k))
      (onward (cond t (done tt (comparing p f a b (second a b) c)) (full (full_at p f Comparisons))) (λ (y : Unit {0}). chosen (second a b) n l))
  kept_told p f a b m n k l h t c true =
      kept_on c (comparing p f a b (first a b) c) (record { nodes = begins_same _; arrows = begins_same _; frames = begins_same _; comparisons = begins_more _ _ }) (refl, tt) _ _ _ (good_chosen (first a b) m n k l h t (comparing p f a b (first a b) c))
      (λ q. ap (λ (o : Outcome). chosen o n l (comparing p f a b o c)) (sym q.0))
  kept_told p f a b m n k l h t c false = stopped

  good_if : {X : Type 0} (p f : ℕ) (a b : Origin) (m n k l : Step X) → Good m n → Good k l →
      Good (compared p f a b (first a b) >> chosen (first a b) m k) (compared p f a b (second a b) >> chosen (second a b) n l)
  unfolding compared enter_comparison
  good_if p f a b m n k l h t c = kept_told p f a b m n k l h t c (ltb (length c.comparisons) 1024)

  abbrev Body : Type 0
  Body = Environment → ℕ → Step Maps

  good_body : (p f : ℕ) (ms : List Bool) (tails heads : List ℕ) (m n : Body) → ((env : Environment) (g : ℕ) → Good (m env g) (n env g)) → (env : Environment) (k : ℕ) →
      Good (run_body p f ms tails heads m env k) (run_body p f ms tails heads n env k)
  unfolding run_body
  good_body p f ms tails heads m n h env k =
      good_bind _ _ _ _ (good_frame p f _) λ g.
      good_bind _ _ _ _ (h env g) λ a.
      good_then _ _ _ _ (good_each_at _ _ (good_link p f tails a.into) 0 ms) (good_each _ _ (good_tie p f ms heads) a.outs)

  pub good_turn : (p f : ℕ) (ms s : List Bool) (i : ℕ) (m n : Body) → ((env : Environment) (g : ℕ) → Good (m env g) (n env g)) → (env : Environment) (k : ℕ) (a : Arrow) →
      Good (turn p f ms s i m env k a) (turn p f ms s i n env k a)
  unfolding turn
  good_turn p f ms s i m n h env k a =
      good_branch (get_or s a.tail false) _ _ _ _
      (good_branch (is_blank_origin a.origin) _ _ _ _ (good_each_at _ _ (good_link p f _ _) 0 ms)
      (good_body p f ms _ _ m n h (deeper env a.origin a.head) k))
      (good_give tt)

  good_recur : (p f : ℕ) (ms : List Bool) (m n : Body) → ((env : Environment) (g : ℕ) → Good (m env g) (n env g)) → (env : Environment) (r : ℕ) →
      Good (recur p f ms m env r) (recur p f ms n env r)
  unfolding recur
  good_recur p f ms m n h env r c =
      good_then _ _ _ _ (good_each_at _ _ (good_hubs p f ms) 0 _) (good_then _ _ _ _ (good_each_at _ _ (good_turn p f ms _ _ m n h env) 0 c.arrows) (good_give _)) c

  pub good_eval : (e : Tree) (env : Environment) (f : ℕ) → Good (eval first e env f) (eval second e env f)
  unfolding eval
  good_eval (t_zero p) env f = good_give _
  good_eval (t_node p) env f = good_bind _ _ _ _ (good_new p f 0) λ v. good_give _
  good_eval (t_edge p t e) env f =
      good_bind _ _ _ _ (good_eval e env f) λ a. good_bind _ _ _ _ (good_labelled p f _ _) λ v. good_give _
  good_eval (t_union p e g) env f =
      good_bind _ _ _ _ (good_eval e env f) λ a.
      good_bind _ _ _ _ (good_eval g env f) λ b.
      good_bind _ _ _ _ (good_nodes _ (good_joint p f _ _) 0 (ins e)) λ into. good_give _
  good_eval (t_mark p m e) env f = good_bind _ _ _ _ (good_eval e env f) λ a. good_give _
  good_eval (t_out p m) env f = good_bind _ _ _ _ (good_new p f 0) λ v. good_give _
  good_eval (t_disjoint p e g) env f = good_bind _ _ _ _ (good_eval e env f) λ a. good_bind _ _ _ _ (good_eval g env f) λ b. good_give _
  good_eval (t_append p e g) env f =
      good_bind _ _ _ _ (good_eval e env f) λ a.
      good_bind _ _ _ _ (good_eval g env f) λ b. good_then _ _ _ _ (good_each _ _ (good_tie p f (ins g) b.into) a.outs) (good_give _)
  good_eval (t_graph p j) env f = good_give _
  good_eval (t_if p s t e g) env f = good_if p f _ _ _ _ _ _ (good_eval e env f) (good_eval g env f)
  good_eval (t_recursion p b a) env f =
      good_bind _ _ _ _ (good_eval a env f) λ m.
      good_bind _ _ _ _ (good_recur p f (ins b) (eval first b) (eval second b) (λ inner g. good_eval b inner g) env _) λ into. good_give _

  good_forward : (g : Graph) (e : Tree) → Kept (opening g) (forward first g e) (forward second g e)
  unfolding forward
  good_forward g e = kept_onward (opening g) _ _ _ _ (good_eval e outermost 0 (opening g)) (λ m. good_give _)

  -- what a finished run kept
  pub record Ended (g : Graph) (c : Course) (run other : Run ℕ) (v : ℕ) : Type 0 where
    pub holds : Every (Holds first) c.comparisons
    pub again : Every (Holds second) c.comparisons → other ≡ done v c

  ended : (g : Graph) (c : Course) (v : ℕ) (run other : Run ℕ) → Kept (opening g) run other → run ≡ done v c → Ended g c run other v
  ended g c v (done x d) other (kept added h a) q =
      let same : d ≡ c = cc in
      let all : added.comparisons.rest ≡ c.comparisons = sym added.comparisons.is ∙ ap (λ (y : Course). y.comparisons) same in
      record {
        holds = subst (λ (l : List Comparison). Every (Holds first) l) all h;
        again = λ t. a (subst (λ (l : List Comparison). Every (Holds second) l) (sym all) t) ∙ q;
      }
  ended g c v (full x) other stopped q = absurd (let z : ◌≡◌ {A = ℕ} 0 1 = cc in omega arith)

  pub ends_with : (g : Graph) (e : Tree) (v : ℕ) (c : Course) → forward first g e ≡ done v c → Ended g c (forward first g e) (forward second g e) v
  ends_with g e v c q = ended g c v _ _ (good_forward g e) q

-- what a finished run kept of the course that it went on from
pub kept_extends : {X : Type 0} (first second : Compare) (c : Course) (x : X) (d : Course) (run other : Run X) → Kept first second c run other → run ≡ done x d → Extends c d
kept_extends first second c x d (done y e) other (kept added h a) q = let same : e ≡ d = cc in subst (Extends c) same added
kept_extends first second c x d (full e) other stopped q = absurd (let z : ◌≡◌ {A = ℕ} 0 1 = cc in omega arith)

pub only_adds : OnlyAdds
only_adds =
    record {
      evaluation = λ cmp e env f c m d h. kept_extends cmp cmp c m d _ _ (good_eval cmp cmp e env f c) h;
      run = λ cmp g e v d h. kept_extends cmp cmp (opening g) v d _ _ (good_forward cmp cmp g e) h;
    }

pub recorded : Recorded
recorded cmp g e v c q = (ends_with cmp cmp g e v c q).holds

pub same_course : SameCourse
same_course first second g e v c q = (λ h. recorded second g e v c h, (ends_with first second g e v c q).again)
