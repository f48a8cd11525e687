-- Each form but recursion: what its rule answers, from what its parts and its closing step answer. Assumes nothing.
use Rattle.std.proofs.Common.{◌≡◌, ℕ, ◌-◌, ◌≤◌, Bool, List, [], ◌∷◌, ◌++◌, length, get_or, take, drop, IsErrAnd, Ok, Err, Result, sym, refl, ap, ◌∙◌, subst, append_assoc, append-nil, arith, length-append}
use Rattle.std.proofs.lemmas.List.{take_at, drop_at}
use Rattle.course.specs.declared.workspace.Workspace.{Workspace}
use Rattle.course.specs.declared.environment.Out.{Out}
use Rattle.course.specs.declared.environment.Environment.{Environment}
use Rattle.course.specs.declared.course.Full.{Full}
use Rattle.course.specs.declared.course.Origin.{Origin}
use Rattle.course.specs.declared.course.Outcome.{Outcome}
use Rattle.course.specs.declared.course.Outcome.TheVariants.{Same, Other}
use Rattle.expression.specs.declared.term.Term.{Term}
use Rattle.expression.specs.Forms.{Tree, t_node, t_edge, t_union, t_mark, t_out, t_zero, t_disjoint, t_append, t_graph, t_if, ins}
use Rattle.course.specs.Course.{Run, done, full, onward, give, new_node, each, nodes_for}
use Rattle.course.specs.Labels.{Compare}
use Rattle.course.specs.Forward.{Maps, maps, only, empty, merged, origin_of, node_of, labelled, joint, tie, out, compared, eval}
use Rattle.course.specs.View.{course_of, stack, size, cut, Within, Bound, Goes, Makes, Tells, Agrees, Evaluates}
use Rattle.course.proofs.Maps.{only_within, empty_within, merged_within, wider, bound_up}

-- the exit of a `?`
pub exits : {run : Run Maps} {w v : Workspace} {x : Full} (r : Result (List ℕ) Full)
    → IsErrAnd r (λ y. y ≡ x) → run ≡ full x → Agrees run w v r
exits (Ok n) e s = absurd e
exits (Err y) e s = record { told = s ∙ ap full (sym e) }

-- the same tree, told otherwise
pub whole : {cmp : Compare} {x y : Tree} {env : Environment} {f : ℕ} {w v : Workspace} {r : Result (List ℕ) Full} → x ≡ y → Evaluates cmp y env f w v r → Evaluates cmp x env f w v r
whole {cmp} {env} {f} {w} {v} {r} q e = subst (λ (z : Tree). Evaluates cmp z env f w v r) (sym q) e

-- later memory holds what was there
pub still : {cmp : Compare} {x : Tree} {env : Environment} {f : ℕ} {w v : Workspace} {o : List ℕ} (ns : List ℕ) → Evaluates cmp x env f w v (Ok o) → Within (size w) ns → Within (size v) ns
still {w} {v} ns e h = wider (size w) (size v) ns e.run.told.3 h

pub still_bound : {cmp : Compare} {x : Tree} {env : Environment} {f : ℕ} {w v : Workspace} {o : List ℕ} (e : Environment) → Evaluates cmp x env f w v (Ok o) → Bound e (size w) → Bound e (size v)
still_bound {w} {v} e ev h = bound_up (size w) (size v) e ev.run.told.3 h

pub evaluated : {cmp : Compare} {x : Tree} {env : Environment} {f : ℕ} {w v : Workspace} {o : List ℕ} → Evaluates cmp x env f w v (Ok o) → Within (size v) o
evaluated e = e.run.told.4

pub grows : {cmp : Compare} {x : Tree} {env : Environment} {f : ℕ} {w v : Workspace} {o : List ℕ} → Evaluates cmp x env f w v (Ok o) → length (stack w) ≤ length (stack v)
grows e = omega (arith, simp length-append at (ap length e.run.told.2))

-- an in-map made last, beside outs that there were
with_outs : (run : Run ℕ) (os : List Out) → onward run (λ v. give (maps (only 0 v) os)) ≡ onward (onward run (λ v. give (only 0 v))) (λ (i : List ℕ). give (maps i os))
with_outs (done v c) os = refl
with_outs (full x) os = refl

closed_map : {run : Run (List ℕ)} {w u v : Workspace} {r : Result (List ℕ) Full} (os : List Out)
    → Makes run u v r → stack u ≡ stack w ++ os → size w ≤ size u
    → Agrees (onward run (λ (i : List ℕ). give (maps i os))) w v r
closed_map {r = Ok n} os s e g = record { told = (os, rw s.told.0 refl, s.told.1 ∙ e, omega (arith, s.told.2), s.told.3) }
closed_map {r = Err y} os s e g = record { told = rw s.told refl }

-- Node
pub at_node : {cmp : Compare} {x : Tree} {env : Environment} {f p : ℕ} {w v : Workspace} {r : Result (List ℕ) Full}
    → x ≡ t_node p → Makes (onward (new_node p f 0 (course_of w)) (λ k. give (only 0 k))) w v r → Evaluates cmp x env f w v r
unfolding eval
at_node {f} {p} {w} q s = record { run = rw (q, with_outs (new_node p f 0 (course_of w)) []) (closed_map [] s (sym (append-nil (stack w))) (omega arith)) }

-- Edge
pub at_edge_exit : {cmp : Compare} {x e : Tree} {env : Environment} {f p : ℕ} {t : Term} {w u : Workspace} {y : Full} (r : Result (List ℕ) Full)
    → x ≡ t_edge p t e → Evaluates cmp e env f w u (Err y) → IsErrAnd r (λ z. z ≡ y) → Evaluates cmp x env f w u r
unfolding eval
at_edge_exit r q a err = record { run = exits r err (rw (q, a.run.told) refl) }

pub at_edge : {cmp : Compare} {x e : Tree} {env : Environment} {f p : ℕ} {t : Term} {w u v : Workspace} {o : List ℕ} {r : Result (List ℕ) Full} (l : Origin)
    → x ≡ t_edge p t e → Evaluates cmp e env f w u (Ok o) → l ≡ origin_of env t → Makes (onward (labelled p f l (get_or o 0 0) (course_of u)) (λ k. give (only 0 k))) u v r
    → Evaluates cmp x env f w v r
unfolding eval
at_edge {f} {p} {u} {o} l q a el s =
    record { run = rw (q, a.run.told.1, ← el, with_outs (labelled p f l (get_or o 0 0) (course_of u)) a.run.told.0) (closed_map a.run.told.0 s a.run.told.2 a.run.told.3) }

-- Union
pub at_union_left : {cmp : Compare} {x e g : Tree} {env : Environment} {f p : ℕ} {w u : Workspace} {y : Full} (r : Result (List ℕ) Full)
    → x ≡ t_union p e g → Evaluates cmp e env f w u (Err y) → IsErrAnd r (λ z. z ≡ y) → Evaluates cmp x env f w u r
unfolding eval
at_union_left r q a err = record { run = exits r err (rw (q, a.run.told) refl) }

pub at_union_right : {cmp : Compare} {x e g : Tree} {env : Environment} {f p : ℕ} {w u v : Workspace} {o : List ℕ} {y : Full} (r : Result (List ℕ) Full)
    → x ≡ t_union p e g → Evaluates cmp e env f w u (Ok o) → Evaluates cmp g env f u v (Err y) → IsErrAnd r (λ z. z ≡ y) → Evaluates cmp x env f w v r
unfolding eval
at_union_right r q a b err = record { run = exits r err (rw (q, a.run.told.1, b.run.told) refl) }

pub at_union : {cmp : Compare} {x e g : Tree} {env : Environment} {f p : ℕ} {w u v z : Workspace} {o i : List ℕ} {r : Result (List ℕ) Full} (ms : List Bool)
    → x ≡ t_union p e g → Evaluates cmp e env f w u (Ok o) → Evaluates cmp g env f u v (Ok i) → ms ≡ ins e
    → Makes (nodes_for (joint p f o i) 0 ms (course_of v)) v z r → Evaluates cmp x env f w z r
unfolding eval
at_union {w} {u} {v} {z} {r = Ok n} ms q a b em s =
    record {
      run = rw (q, a.run.told.1, b.run.told.1, ← em, s.told.0)
          (record {
            told = (
              a.run.told.0 ++ b.run.told.0,
              refl,
              s.told.1 ∙ b.run.told.2 ∙ ap (λ l. l ++ b.run.told.0) a.run.told.2 ∙ append_assoc (stack w) a.run.told.0 b.run.told.0,
              omega (arith, s.told.2, a.run.told.3, b.run.told.3),
              s.told.3,
            );
          });
    }
at_union {r = Err y} ms q a b em s = record { run = rw (q, a.run.told.1, b.run.told.1, ← em, s.told) (record { told = refl }) }

-- Mark
pub at_mark_exit : {cmp : Compare} {x e : Tree} {env : Environment} {f p m : ℕ} {w u : Workspace} {y : Full} (r : Result (List ℕ) Full)
    → x ≡ t_mark p m e → Evaluates cmp e env f w u (Err y) → IsErrAnd r (λ z. z ≡ y) → Evaluates cmp x env f w u r
unfolding eval
at_mark_exit r q a err = record { run = exits r err (rw (q, a.run.told) refl) }

pub at_mark : {cmp : Compare} {x e : Tree} {env : Environment} {f p m : ℕ} {w u : Workspace} {o : List ℕ} (i : List ℕ)
    → x ≡ t_mark p m e → Evaluates cmp e env f w u (Ok o) → i ≡ only m (get_or o 0 0) → Evaluates cmp x env f w u (Ok i)
unfolding eval
at_mark {m} {u} {o} i q a e =
    record {
      run = rw (q, a.run.told.1)
          (record {
            told = (
              a.run.told.0,
              ap (λ (z : List ℕ). done (maps z a.run.told.0) (course_of u)) (sym e),
              a.run.told.2,
              a.run.told.3,
              subst (λ (z : List ℕ). Within (size u) z) (sym e) (only_within (size u) m (get_or o 0 0) (a.run.told.4 0)),
            );
          });
    }

-- Out
pub at_out : {cmp : Compare} {x : Tree} {env : Environment} {f p m : ℕ} {w v : Workspace} {r : Result (List ℕ) Full}
    → x ≡ t_out p m → Agrees (onward (new_node p f 0 (course_of w)) (λ k. done (maps (only 0 k) (out k m ∷ [])))) w v r → Evaluates cmp x env f w v r
unfolding eval
at_out q a = record { run = rw q a }

-- Zero
pub at_zero : {cmp : Compare} {x : Tree} {env : Environment} {f p : ℕ} {w : Workspace} → x ≡ t_zero p → Bound env (size w) → Evaluates cmp x env f w w (Ok empty)
unfolding eval
at_zero {w} q h = record { run = rw q (record { told = ([], refl, sym (append-nil (stack w)), omega arith, empty_within (size w) (omega (arith, h 0))) }) }

-- Disjoint
pub at_disjoint_left : {cmp : Compare} {x e g : Tree} {env : Environment} {f p : ℕ} {w u : Workspace} {y : Full} (r : Result (List ℕ) Full)
    → x ≡ t_disjoint p e g → Evaluates cmp e env f w u (Err y) → IsErrAnd r (λ z. z ≡ y) → Evaluates cmp x env f w u r
unfolding eval
at_disjoint_left r q a err = record { run = exits r err (rw (q, a.run.told) refl) }

pub at_disjoint_right : {cmp : Compare} {x e g : Tree} {env : Environment} {f p : ℕ} {w u v : Workspace} {o : List ℕ} {y : Full} (r : Result (List ℕ) Full)
    → x ≡ t_disjoint p e g → Evaluates cmp e env f w u (Ok o) → Evaluates cmp g env f u v (Err y) → IsErrAnd r (λ z. z ≡ y) → Evaluates cmp x env f w v r
unfolding eval
at_disjoint_right r q a b err = record { run = exits r err (rw (q, a.run.told.1, b.run.told) refl) }

pub at_disjoint : {cmp : Compare} {x e g : Tree} {env : Environment} {f p : ℕ} {w u v : Workspace} {o i : List ℕ} (ms : List Bool) (n : List ℕ)
    → x ≡ t_disjoint p e g → Evaluates cmp e env f w u (Ok o) → Evaluates cmp g env f u v (Ok i) → ms ≡ ins e → n ≡ merged ms o i
    → Evaluates cmp x env f w v (Ok n)
unfolding eval
at_disjoint {w} {u} {v} {o} {i} ms n q a b em en =
    record {
      run = rw (q, a.run.told.1, b.run.told.1, ← em)
          (record {
            told = (
              a.run.told.0 ++ b.run.told.0,
              ap (λ (z : List ℕ). done (maps z (a.run.told.0 ++ b.run.told.0)) (course_of v)) (sym en),
              b.run.told.2 ∙ ap (λ l. l ++ b.run.told.0) a.run.told.2 ∙ append_assoc (stack w) a.run.told.0 b.run.told.0,
              omega (arith, a.run.told.3, b.run.told.3),
              subst (λ (z : List ℕ). Within (size v) z) (sym en) (merged_within (size v) ms o i (omega (arith, b.run.told.4 0)) (still o b a.run.told.4) b.run.told.4),
            );
          });
    }

-- the outs of the first part, and the stack without them
pub parts : (ws us vs os qs : List Out) (b m : ℕ)
    → us ≡ ws ++ os → vs ≡ us ++ qs → b ≡ length ws → m ≡ length us
    → (take (m - b) (drop b vs) ≡ os) × (cut vs b m ≡ ws ++ qs)
parts ws us vs os qs b m e g hb hm =
    let k : m - b ≡ length os = omega (arith, simp length-append at (ap length e)) in
    let v : vs ≡ ws ++ (os ++ qs) = g ∙ ap (λ x. x ++ qs) e ∙ append_assoc ws os qs in (
      rw (k, v, drop_at ws (os ++ qs) b (sym hb)) (take_at os qs (length os) refl),
      ap (λ l. l ++ drop m vs) (ap (take b) v ∙ take_at ws (os ++ qs) b (sym hb))
          ∙ ap (λ l. ws ++ l) (ap (drop m) g ∙ drop_at us qs m (sym hm)),
    )

-- Append
pub at_append_left : {cmp : Compare} {x e g : Tree} {env : Environment} {f p : ℕ} {w u : Workspace} {y : Full} (r : Result (List ℕ) Full)
    → x ≡ t_append p e g → Evaluates cmp e env f w u (Err y) → IsErrAnd r (λ z. z ≡ y) → Evaluates cmp x env f w u r
unfolding eval
at_append_left r q a err = record { run = exits r err (rw (q, a.run.told) refl) }

pub at_append_right : {cmp : Compare} {x e g : Tree} {env : Environment} {f p : ℕ} {w u v : Workspace} {o : List ℕ} {y : Full} (r : Result (List ℕ) Full)
    → x ≡ t_append p e g → Evaluates cmp e env f w u (Ok o) → Evaluates cmp g env f u v (Err y) → IsErrAnd r (λ z. z ≡ y) → Evaluates cmp x env f w v r
unfolding eval
at_append_right r q a b err = record { run = exits r err (rw (q, a.run.told.1, b.run.told) refl) }

pub at_append_tie : {cmp : Compare} {x e g : Tree} {env : Environment} {f p : ℕ} {w u v z : Workspace} {o i : List ℕ} {y : Full} (b m : ℕ) (ms : List Bool) (r : Result (List ℕ) Full)
    → x ≡ t_append p e g → Evaluates cmp e env f w u (Ok o) → Evaluates cmp g env f u v (Ok i) → ms ≡ ins g
    → b ≡ length (stack w) → m ≡ length (stack u)
    → each (tie p f ms i) (take (m - b) (drop b (stack v))) (course_of v) ≡ full y → IsErrAnd r (λ k. k ≡ y) → Evaluates cmp x env f w z r
unfolding eval
at_append_tie {w} {u} {v} b m ms r q a c em hb hm t err =
    let k = parts (stack w) (stack u) (stack v) a.run.told.0 c.run.told.0 b m a.run.told.2 c.run.told.2 hb hm in
    record { run = exits r err (rw (q, a.run.told.1, c.run.told.1, ← em, ← k.0, t) refl) }

pub at_append : {cmp : Compare} {x e g : Tree} {env : Environment} {f p : ℕ} {w u v y z : Workspace} {o i : List ℕ} (b m : ℕ) (ms : List Bool)
    → x ≡ t_append p e g → Evaluates cmp e env f w u (Ok o) → Evaluates cmp g env f u v (Ok i) → ms ≡ ins g
    → b ≡ length (stack w) → m ≡ length (stack u)
    → Goes (each (tie p f ms i) (take (m - b) (drop b (stack v))) (course_of v)) v y (Ok tt)
    → course_of z ≡ course_of y → stack z ≡ cut (stack y) b m → size z ≡ size y
    → Evaluates cmp x env f w z (Ok o)
unfolding eval
at_append {f} {p} {w} {u} {v} {y} {z} {o} {i} b m ms q a c em hb hm t vz sz nz =
    let k = parts (stack w) (stack u) (stack v) a.run.told.0 c.run.told.0 b m a.run.told.2 c.run.told.2 hb hm in
    let run : each (tie p f ms i) a.run.told.0 (course_of v) ≡ done tt (course_of z) = ap (λ os. each (tie p f ms i) os (course_of v)) (sym k.0) ∙ t.told.0 ∙ ap (done tt) (sym vz) in
    record {
      run = rw (q, a.run.told.1, c.run.told.1, ← em, run)
          (record {
            told = (
              c.run.told.0,
              refl,
              sz ∙ ap (λ l. cut l b m) t.told.1 ∙ k.1,
              omega (arith, nz, t.told.2, a.run.told.3, c.run.told.3),
              wider (size u) (size z) o (omega (arith, nz, t.told.2, c.run.told.3)) a.run.told.4,
            );
          });
    }

-- Graph
pub at_graph : {cmp : Compare} {x : Tree} {env : Environment} {f p j : ℕ} {w : Workspace} (o : List ℕ)
    → x ≡ t_graph p j → o ≡ only 0 (node_of env j) → Bound env (size w) → Evaluates cmp x env f w w (Ok o)
unfolding eval
at_graph {env} {j} {w} o q e h =
    record {
      run = rw q (record {
        told = (
          [],
          ap (λ (z : List ℕ). done (maps z []) (course_of w)) (sym e),
          sym (append-nil (stack w)),
          omega arith,
          subst (λ (z : List ℕ). Within (size w) z) (sym e) (only_within (size w) 0 (node_of env j) (h j)),
        );
      });
    }

-- If
pub moved : {run : Run Maps} {w u v : Workspace} {r : Result (List ℕ) Full} → stack u ≡ stack w → size w ≤ size u → Agrees run u v r → Agrees run w v r
moved {r = Ok n} e g a = record { told = (a.told.0, a.told.1, a.told.2 ∙ ap (λ s. s ++ a.told.0) e, omega (arith, a.told.3), a.told.4) }
moved {r = Err x} e g a = record { told = a.told }

pub at_if_exit : {cmp : Compare} {x e g : Tree} {env : Environment} {f p : ℕ} {s t : Term} {w u : Workspace} {y : Full} (l h : Origin) (r : Result (List ℕ) Full)
    → x ≡ t_if p s t e g → l ≡ origin_of env s → h ≡ origin_of env t → compared p f l h (cmp l h) (course_of w) ≡ full y → IsErrAnd r (λ z. z ≡ y) → Evaluates cmp x env f w u r
unfolding eval
at_if_exit l h r q el eh c err = record { run = exits r err (rw (q, ← el, ← eh, c) refl) }

pub at_if_same : {cmp : Compare} {x e g : Tree} {env : Environment} {f p : ℕ} {s t : Term} {w u v : Workspace} {b : Outcome} {r : Result (List ℕ) Full} (l h : Origin)
    → x ≡ t_if p s t e g → l ≡ origin_of env s → h ≡ origin_of env t → Tells (cmp l h) (compared p f l h (cmp l h) (course_of w)) w u (Ok b) → b ≡ Same
    → Evaluates cmp e env f u v r → Evaluates cmp x env f w v r
unfolding eval
at_if_same l h q el eh c eb a = record { run = rw (q, ← el, ← eh, c.told.1, sym c.told.0 ∙ eb) (moved c.told.2 c.told.3 a.run) }

pub at_if_other : {cmp : Compare} {x e g : Tree} {env : Environment} {f p : ℕ} {s t : Term} {w u v : Workspace} {b : Outcome} {r : Result (List ℕ) Full} (l h : Origin)
    → x ≡ t_if p s t e g → l ≡ origin_of env s → h ≡ origin_of env t → Tells (cmp l h) (compared p f l h (cmp l h) (course_of w)) w u (Ok b) → b ≡ Other
    → Evaluates cmp g env f u v r → Evaluates cmp x env f w v r
unfolding eval
at_if_other l h q el eh c eb a = record { run = rw (q, ← el, ← eh, c.told.1, sym c.told.0 ∙ eb) (moved c.told.2 c.told.3 a.run) }
