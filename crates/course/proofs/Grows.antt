-- A run only adds arrows, so those that there are keep their numbers. Assumes nothing.
use Rattle.std.proofs.Common.{◌≡◌, ℕ, suc, Bool, true, false, cond, ltb, List, [], ◌∷◌, ◌++◌, length, get_or, sym, refl, ap, ◌∙◌, subst, append_assoc, append-nil, arith}
use Rattle.course.specs.declared.course.Node.{Node}
use Rattle.course.specs.declared.course.Arrow.{Arrow}
use Rattle.course.specs.declared.course.Frame.{Frame}
use Rattle.course.specs.declared.course.Comparison.{Comparison}
use Rattle.course.specs.declared.environment.Out.{Out}
use Rattle.course.specs.declared.environment.Environment.{Environment}
use Rattle.course.specs.declared.course.Full.{Full}
use Rattle.course.specs.declared.course.Origin.{Origin}
use Rattle.course.specs.declared.course.Origin.TheVariants.{Blank}
use Rattle.course.specs.declared.course.Outcome.{Outcome}
use Rattle.course.specs.declared.course.Outcome.TheVariants.{Same, Other}
use Rattle.expression.specs.Forms.{Tree, t_node, t_edge, t_union, t_mark, t_out, t_zero, t_disjoint, t_append, t_graph, t_if, t_recursion, ins}
use Rattle.course.specs.Course.{Course, Run, done, full, Step, onward, give, ◌>>=◌, ◌>>◌, branch, is_blank_origin, enter_node, enter_arrow, enter_frame, enter_comparison, new_node, new_arrow, each, each_at, nodes_for}
use Rattle.course.specs.Labels.{Compare}
use Rattle.course.specs.Reach.{reached}
use Rattle.course.specs.Hubs.{hubs}
use Rattle.course.specs.Forward.{Maps, maps, only, origin_of, deeper, labelled, joint, tie, compared, chosen, hub_step, hubs_step, link_at, run_body, turn, recur, eval}

-- a list begins with another
pub record Begins {X : Type 0} (xs ys : List X) : Type 0 where
  pub more : List X
  pub is : ys ≡ xs ++ more

pub begins_same : {X : Type 0} (xs : List X) → Begins xs xs
begins_same xs = record { more = []; is = sym (append-nil xs) }

pub begins_push : {X : Type 0} (xs : List X) (x : X) → Begins xs (xs ++ x ∷ [])
begins_push xs x = record { more = x ∷ []; is = refl }

pub begins_on : {X : Type 0} {xs ys zs : List X} → Begins xs ys → Begins ys zs → Begins xs zs
begins_on {xs} a b = record { more = a.more ++ b.more; is = b.is ∙ ap (λ l. l ++ b.more) a.is ∙ append_assoc xs a.more b.more }

-- where a run is done, its course begins with the arrows of c
pub data Raises {X : Type 0} (c : Course) : Run X → Type 0 where
  raised : {x : X} {d : Course} → Begins c.arrows d.arrows → Raises c (done x d)
  stopped : {e : Full} → Raises c (full e)

-- a step that only adds arrows
abbrev pub Climbs : {X : Type 0} → Step X → Type 0
Climbs m = (c : Course) → Raises c (m c)

raises_on : {X : Type 0} (c d : Course) (run : Run X) → Begins c.arrows d.arrows → Raises d run → Raises c run
raises_on c d (done x e) b (raised h) = raised (begins_on b h)
raises_on c d (full e) b stopped = stopped

raises_onward : {X Y : Type 0} (c : Course) (run : Run X) (k : X → Step Y) → Raises c run → ((x : X) → Climbs (k x)) → Raises c (onward run k)
raises_onward c (done x d) k (raised h) t = raises_on c d (k x d) h (t x d)
raises_onward c (full e) k stopped t = stopped

pub climbs_give : {X : Type 0} (x : X) → Climbs (give x)
climbs_give x c = raised (begins_same c.arrows)

pub climbs_bind : {X Y : Type 0} (m : Step X) (k : X → Step Y) → Climbs m → ((x : X) → Climbs (k x)) → Climbs (m >>= k)
climbs_bind m k h t c = raises_onward c (m c) k (h c) t

pub climbs_then : {X Y : Type 0} (m : Step X) (k : Step Y) → Climbs m → Climbs k → Climbs (m >> k)
climbs_then m k h t c = raises_onward c (m c) (λ x. k) (h c) (λ x. t)

pub climbs_branch : {X : Type 0} (b : Bool) (m n : Step X) → Climbs m → Climbs n → Climbs (branch b m n)
climbs_branch true m n h t c = h c
climbs_branch false m n h t c = t c

raises_cond : {X : Type 0} (c : Course) (b : Bool) (x y : Run X) → Raises c x → Raises c y → Raises c (cond b x y)
raises_cond c true x y h t = h
raises_cond c false x y h t = t

pub climbs_node : (n : Node) → Climbs (enter_node n)
unfolding enter_node
climbs_node n c = raises_cond c (ltb (length c.nodes) 1024) _ _ (raised (begins_same c.arrows)) stopped

pub climbs_arrow : (a : Arrow) → Climbs (enter_arrow a)
unfolding enter_arrow
climbs_arrow a c = raises_cond c (ltb (length c.arrows) 2048) _ _ (raised (begins_push c.arrows a)) stopped

pub climbs_frame : (p f : ℕ) (n : Frame) → Climbs (enter_frame p f n)
unfolding enter_frame
climbs_frame p f n c = raises_cond c (ltb (length c.frames) 512) _ _ (raised (begins_same c.arrows)) stopped

pub climbs_comparison : (q : Comparison) → Climbs (enter_comparison q)
unfolding enter_comparison
climbs_comparison q c = raises_cond c (ltb (length c.comparisons) 1024) _ _ (raised (begins_same c.arrows)) stopped

pub climbs_new : (p f m : ℕ) → Climbs (new_node p f m)
climbs_new p f m c = climbs_node (record { place = p; frame = f; marker = m; stands = length c.nodes }) c

pub climbs_each : {X : Type 0} (step : X → Step (Unit {0})) → ((x : X) → Climbs (step x)) → (xs : List X) → Climbs (each step xs)
unfolding each
climbs_each step h [] c = raised (begins_same c.arrows)
climbs_each step h (x ∷ xs) c = raises_onward c (step x c) (λ y. each step xs) (h x c) (λ y. climbs_each step h xs)

pub climbs_at : {X : Type 0} (step : ℕ → X → Step (Unit {0})) → ((k : ℕ) (x : X) → Climbs (step k x)) → (i : ℕ) (xs : List X) → Climbs (each_at step i xs)
unfolding each_at
climbs_at step h i [] c = raised (begins_same c.arrows)
climbs_at step h i (x ∷ xs) c = raises_onward c (step i x c) (λ y. each_at step (suc i) xs) (h i x c) (λ y. climbs_at step h (suc i) xs)

pub climbs_nodes : (step : ℕ → Step ℕ) → ((k : ℕ) → Climbs (step k)) → (i : ℕ) (ms : List Bool) → Climbs (nodes_for step i ms)
unfolding nodes_for
climbs_nodes step h i [] c = raised (begins_same c.arrows)
climbs_nodes step h i (b ∷ bs) c =
    raises_onward c (branch b (step i) (give 0) c) (λ v. nodes_for step (suc i) bs >>= λ vs. give (v ∷ vs)) (climbs_branch b (step i) (give 0) (h i) (climbs_give 0) c)
    (λ v. climbs_bind (nodes_for step (suc i) bs) (λ vs. give (v ∷ vs)) (climbs_nodes step h (suc i) bs) (λ vs. climbs_give (v ∷ vs)))

climbs_labelled : (p f : ℕ) (o : Origin) (t : ℕ) → Climbs (labelled p f o t)
unfolding labelled
climbs_labelled p f o t =
    climbs_bind (new_node p f 0) (λ v. new_arrow v t o p f >> give v) (climbs_new p f 0) (λ v. climbs_then (new_arrow v t o p f) (give v) (climbs_arrow _) (climbs_give v))

climbs_joint : (p f : ℕ) (a b : List ℕ) (m : ℕ) → Climbs (joint p f a b m)
unfolding joint
climbs_joint p f a b m =
    climbs_bind (new_node p f m) (λ v. new_arrow v (get_or a m 0) Blank p f >> (new_arrow v (get_or b m 0) Blank p f >> give v)) (climbs_new p f m)
    (λ v. climbs_then (new_arrow v (get_or a m 0) Blank p f) (new_arrow v (get_or b m 0) Blank p f >> give v) (climbs_arrow _) (climbs_then (new_arrow v (get_or b m 0) Blank p f) (give v) (climbs_arrow _) (climbs_give v)))

climbs_chosen : {X : Type 0} (b : Outcome) (m n : Step X) → Climbs m → Climbs n → Climbs (chosen b m n)
climbs_chosen Same m n h t c = h c
climbs_chosen Other m n h t c = t c

climbs_tie : (p f : ℕ) (ms : List Bool) (into : List ℕ) (os : List Out) → Climbs (each (tie p f ms into) os)
climbs_tie p f ms into os =
    climbs_each (tie p f ms into) (λ o. climbs_branch (get_or ms o.marker false) (new_arrow o.node (get_or into o.marker 0) Blank p f) (give tt) (climbs_arrow _) (climbs_give tt)) os

climbs_link : (p f : ℕ) (tails heads : List ℕ) (ms : List Bool) → Climbs (each_at (link_at p f tails heads) 0 ms)
climbs_link p f tails heads ms =
    climbs_at (link_at p f tails heads) (λ m b. climbs_branch b (new_arrow (get_or tails m 0) (get_or heads m 0) Blank p f) (give tt) (climbs_arrow _) (climbs_give tt)) 0 ms

pub climbs_hubs : (p f : ℕ) (ms s : List Bool) → Climbs (each_at (hubs_step p f ms) 0 s)
climbs_hubs p f ms s =
    climbs_at (hubs_step p f ms) (λ v b. climbs_branch b (each_at (hub_step p f v) 0 ms) (give tt)
    (climbs_at (hub_step p f v) (λ m t. climbs_branch t (enter_node (record { place = p; frame = f; marker = m; stands = v }) >> give tt) (give tt)
    (climbs_then (enter_node _) (give tt) (climbs_node _) (climbs_give tt)) (climbs_give tt)) 0 ms)
    (climbs_give tt)) 0 s

-- a body that only adds arrows, in any environment and frame
abbrev pub Rises : (Environment → ℕ → Step Maps) → Type 0
Rises body = (env : Environment) (f : ℕ) → Climbs (body env f)

climbs_body : (p f : ℕ) (ms : List Bool) (tails heads : List ℕ) (body : Environment → ℕ → Step Maps) (env : Environment) (k : ℕ) → Rises body → Climbs (run_body p f ms tails heads body env k)
unfolding run_body
climbs_body p f ms tails heads body env k h =
    climbs_bind (enter_frame p f (record { parent = f; place = p; arrow = k })) _ (climbs_frame p f _)
    (λ g. climbs_bind (body env g) _ (h env g)
    (λ n. climbs_then (each_at (link_at p f tails n.into) 0 ms) _ (climbs_link p f tails n.into ms) (climbs_tie p f ms heads n.outs)))

pub climbs_turn : (p f : ℕ) (ms s : List Bool) (h : ℕ) (body : Environment → ℕ → Step Maps) (env : Environment) → Rises body → (k : ℕ) (a : Arrow) → Climbs (turn p f ms s h body env k a)
unfolding turn
climbs_turn p f ms s h body env r k a =
    climbs_branch (get_or s a.tail false) _ (give tt)
    (climbs_branch (is_blank_origin a.origin) _ _
    (climbs_link p f (hubs s ms h a.tail) (hubs s ms h a.head) ms)
    (climbs_body p f ms (hubs s ms h a.tail) (hubs s ms h a.head) body (deeper env a.origin a.head) k r))
    (climbs_give tt)

climbs_recur : (p f : ℕ) (ms : List Bool) (body : Environment → ℕ → Step Maps) (env : Environment) (r : ℕ) → Rises body → Climbs (recur p f ms body env r)
unfolding recur
climbs_recur p f ms body env r h c =
    let n = length c.nodes in
    let s = reached n c.arrows r in
    climbs_then (each_at (hubs_step p f ms) 0 s) _ (climbs_hubs p f ms s)
    (climbs_then (each_at (turn p f ms s n body env) 0 c.arrows) _ (climbs_at (turn p f ms s n body env) (climbs_turn p f ms s n body env h) 0 c.arrows) (climbs_give _)) c

pub eval_climbs : (cmp : Compare) (x : Tree) (env : Environment) (f : ℕ) → Climbs (eval cmp x env f)
unfolding eval compared
eval_climbs cmp (t_node p) env f c = raises_onward c (new_node p f 0 c) _ (climbs_new p f 0 c) (λ v. climbs_give (maps (only 0 v) []))
eval_climbs cmp (t_edge p t e) env f c =
    raises_onward c (eval cmp e env f c) _ (eval_climbs cmp e env f c)
    (λ a. climbs_bind (labelled p f (origin_of env t) (get_or a.into 0 0)) _ (climbs_labelled p f (origin_of env t) (get_or a.into 0 0)) (λ v. climbs_give _))
eval_climbs cmp (t_union p e g) env f c =
    raises_onward c (eval cmp e env f c) _ (eval_climbs cmp e env f c)
    (λ a. climbs_bind (eval cmp g env f) _ (eval_climbs cmp g env f)
    (λ b. climbs_bind (nodes_for (joint p f a.into b.into) 0 (ins e)) _ (climbs_nodes (joint p f a.into b.into) (climbs_joint p f a.into b.into) 0 (ins e)) (λ into. climbs_give _)))
eval_climbs cmp (t_mark p m e) env f c = raises_onward c (eval cmp e env f c) _ (eval_climbs cmp e env f c) (λ a. climbs_give _)
eval_climbs cmp (t_out p m) env f c = raises_onward c (new_node p f 0 c) _ (climbs_new p f 0 c) (λ v. climbs_give _)
eval_climbs cmp (t_zero p) env f c = raised (begins_same c.arrows)
eval_climbs cmp (t_disjoint p e g) env f c =
    raises_onward c (eval cmp e env f c) _ (eval_climbs cmp e env f c)
    (λ a. climbs_bind (eval cmp g env f) _ (eval_climbs cmp g env f) (λ b. climbs_give _))
eval_climbs cmp (t_append p e g) env f c =
    raises_onward c (eval cmp e env f c) _ (eval_climbs cmp e env f c)
    (λ a. climbs_bind (eval cmp g env f) _ (eval_climbs cmp g env f)
    (λ b. climbs_then (each (tie p f (ins g) b.into) a.outs) _ (climbs_tie p f (ins g) b.into a.outs) (climbs_give _)))
eval_climbs cmp (t_graph p j) env f c = raised (begins_same c.arrows)
eval_climbs cmp (t_if p s t e g) env f c =
    raises_onward c (enter_comparison _ c) _ (climbs_comparison _ c)
    (λ y. climbs_chosen (cmp (origin_of env s) (origin_of env t)) (eval cmp e env f) (eval cmp g env f) (eval_climbs cmp e env f) (eval_climbs cmp g env f))
eval_climbs cmp (t_recursion p b a) env f c =
    raises_onward c (eval cmp a env f c) _ (eval_climbs cmp a env f c)
    (λ m. climbs_bind (recur p f (ins b) (eval cmp b) env (get_or m.into 0 0)) _ (climbs_recur p f (ins b) (eval cmp b) env (get_or m.into 0 0) (λ e g. eval_climbs cmp b e g)) (λ into. climbs_give _))

-- where a step is done
raised_done : {X : Type 0} (c d : Course) (x : X) (run : Run X) → Raises c run → run ≡ done x d → Begins c.arrows d.arrows
raised_done c d x (done y k) (raised b) q = let e : k ≡ d = cc in subst (λ (z : Course). Begins c.arrows z.arrows) e b
raised_done c d x (full y) stopped q = let z : ◌≡◌ {A = ℕ} 0 1 = cc in absurd (omega arith)

pub climbed : {X : Type 0} (m : Step X) (c d : Course) (x : X) → Climbs m → m c ≡ done x d → Begins c.arrows d.arrows
climbed m c d x h e = raised_done c d x (m c) (h c) e
