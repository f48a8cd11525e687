-- Recursion: its body in a frame, its arrows and its whole. Assumes nothing.
use Rattle.std.proofs.Common.{◌≡◌, ℕ, ◌-◌, ◌<◌, ◌≤◌, Bool, true, false, List, [], ◌++◌, length, get_or, take, drop, IsErrAnd, Ok, Err, vec_items, vec_len, Result, sym, refl, ap, ◌∙◌, subst, append-nil, arith, length-append}
use Rattle.std.proofs.lemmas.List.{take_at, take_all, take-append-le, get_or_read, get_or-take}
use Rattle.expression.specs.Forms.{Tree, t_recursion, ins}
use Rattle.course.specs.declared.workspace.Workspace.{Workspace}
use Rattle.course.specs.declared.hub_table.Hubs.{Hubs}
use Rattle.course.specs.declared.environment.Environment.{Environment}
use Rattle.course.specs.declared.environment.Out.{Out}
use Rattle.course.specs.declared.course.Arrow.{Arrow}
use Rattle.course.specs.declared.course.Frame.{Frame}
use Rattle.course.specs.declared.course.Full.{Full}
use Rattle.course.specs.Course.{is_blank_origin, Course, Run, done, full, onward, give, enter_frame, each, each_at}
use Rattle.course.specs.Labels.{Compare}
use Rattle.course.specs.Reach.{lost, reached}
use Rattle.course.specs.Forward.{Maps, maps, deeper, tie, link_at, hubs_step, run_body, turn, recur, eval}
use Rattle.course.specs.Recursions.{members, hubs_at, Numbers, Stands, Crosses, turn_of, Bodies, Turns, Takes}
use Rattle.course.specs.View.{course_of, stack, size, Within, Opens, Goes, Evaluates}
use Rattle.course.proofs.Maps.{goes_exit}
use Rattle.course.proofs.Forms.{exits, parts}
use Rattle.course.proofs.HubsIn.{hubs_within}
use Rattle.course.proofs.Grows.{Begins, climbed, climbs_hubs, climbs_turn, eval_climbs}
use Rattle.course.proofs.Walks.{tail_at, reached_closed}

abbrev pub inner : Hubs → ℕ → Frame
inner h k = record { parent = h.rule.frame; place = h.rule.place; arrow = k }

-- the body
pub body_frame : {cmp : Compare} {b : Tree} {env : Environment} {w u : Workspace} {x : Full} (h : Hubs) (k : ℕ) (a : Arrow) (r : Result (Unit {0}) Full)
    → Opens (enter_frame h.rule.place h.rule.frame (inner h k) (course_of w)) w u (Err x) → IsErrAnd r (λ y. y ≡ x)
    → Bodies cmp b env h k a w u r
unfolding run_body
body_frame h k a r fr err = record { run = goes_exit r err (rw fr.told refl) }

pub body_eval : {cmp : Compare} {b : Tree} {env : Environment} {i : ℕ} {w u v : Workspace} {x : Full} (h : Hubs) (k : ℕ) (a : Arrow) (e : Environment) (r : Result (Unit {0}) Full)
    → e ≡ deeper env a.origin a.head
    → Opens (enter_frame h.rule.place h.rule.frame (inner h k) (course_of w)) w u (Ok i) → Evaluates cmp b e i u v (Err x) → IsErrAnd r (λ y. y ≡ x)
    → Bodies cmp b env h k a w v r
unfolding run_body
body_eval h k a e r he fr ev err = record { run = goes_exit r err (rw (fr.told.0, ← he, ev.run.told) refl) }

pub body_link : {cmp : Compare} {b : Tree} {env : Environment} {i : ℕ} {w u v y : Workspace} {into : List ℕ} {x : Full} (h : Hubs) (k : ℕ) (a : Arrow) (e : Environment) (tails : List ℕ) (r : Result (Unit {0}) Full)
    → e ≡ deeper env a.origin a.head → tails ≡ hubs_at h a.tail
    → Opens (enter_frame h.rule.place h.rule.frame (inner h k) (course_of w)) w u (Ok i) → Evaluates cmp b e i u v (Ok into)
    → Goes (each_at (link_at h.rule.place h.rule.frame tails into) 0 h.set (course_of v)) v y (Err x) → IsErrAnd r (λ y. y ≡ x)
    → Bodies cmp b env h k a w y r
unfolding run_body
body_link h k a e tails r he ht fr ev li err = record { run = goes_exit r err (rw (fr.told.0, ← he, ev.run.told.1, ← ht, li.told) refl) }

-- the outs of the body, which stand on the stack
body_outs : {base end : ℕ} (w u v y : Workspace) (os : List Out)
    → stack u ≡ stack w → stack v ≡ stack u ++ os → stack y ≡ stack v
    → base ≡ length (stack w) → end ≡ length (stack y)
    → (take (end - base) (drop base (stack y)) ≡ os) × (take base (stack y) ≡ stack w)
body_outs {base} {end} w u v y os a b c hb he =
    let e : stack y ≡ stack w ++ os = c ∙ b ∙ ap (λ l. l ++ os) a in (
      (parts (stack w) (stack y) (stack y) os [] base end e (sym (append-nil (stack y))) hb he).0,
      ap (take base) e ∙ take_at (stack w) os base (sym hb),
    )

pub body_tie : {cmp : Compare} {b : Tree} {env : Environment} {i base end : ℕ} {w u v y z : Workspace} {into : List ℕ} {x : Full} (h : Hubs) (k : ℕ) (a : Arrow) (e : Environment) (tails heads : List ℕ) (r : Result (Unit {0}) Full)
    → e ≡ deeper env a.origin a.head → tails ≡ hubs_at h a.tail → heads ≡ hubs_at h a.head
    → Opens (enter_frame h.rule.place h.rule.frame (inner h k) (course_of w)) w u (Ok i) → Evaluates cmp b e i u v (Ok into)
    → Goes (each_at (link_at h.rule.place h.rule.frame tails into) 0 h.set (course_of v)) v y (Ok tt)
    → base ≡ length (stack w) → end ≡ length (stack y)
    → Goes (each (tie h.rule.place h.rule.frame h.set heads) (take (end - base) (drop base (stack y))) (course_of y)) y z (Err x) → IsErrAnd r (λ y. y ≡ x)
    → Bodies cmp b env h k a w z r
unfolding run_body
body_tie {w} {u} {v} {y} h k a e tails heads r he ht hh fr ev li hb hn ti err =
    let o = body_outs w u v y ev.run.told.0 fr.told.1 ev.run.told.2 li.told.1 hb hn in
    record { run = goes_exit r err (rw (fr.told.0, ← he, ev.run.told.1, ← ht, li.told.0, ← hh, ← o.0, ti.told) refl) }

pub body_done : {cmp : Compare} {b : Tree} {env : Environment} {i base end : ℕ} {w u v y z q : Workspace} {into : List ℕ} (h : Hubs) (k : ℕ) (a : Arrow) (e : Environment) (tails heads : List ℕ)
    → e ≡ deeper env a.origin a.head → tails ≡ hubs_at h a.tail → heads ≡ hubs_at h a.head
    → Opens (enter_frame h.rule.place h.rule.frame (inner h k) (course_of w)) w u (Ok i) → Evaluates cmp b e i u v (Ok into)
    → Goes (each_at (link_at h.rule.place h.rule.frame tails into) 0 h.set (course_of v)) v y (Ok tt)
    → base ≡ length (stack w) → end ≡ length (stack y)
    → Goes (each (tie h.rule.place h.rule.frame h.set heads) (take (end - base) (drop base (stack y))) (course_of y)) y z (Ok tt)
    → course_of q ≡ course_of z → stack q ≡ take base (stack z) → size q ≡ size z
    → Bodies cmp b env h k a w q (Ok tt)
unfolding run_body
body_done {base} {w} {u} {v} {y} {z} h k a e tails heads he ht hh fr ev li hb hn ti cq sq nq =
    let o = body_outs w u v y ev.run.told.0 fr.told.1 ev.run.told.2 li.told.1 hb hn in
    record {
      run = record {
        told = (
          rw (fr.told.0, ← he, ev.run.told.1, ← ht, li.told.0, ← hh) (ap (λ l. each (tie h.rule.place h.rule.frame h.set heads) l (course_of y)) (sym o.0) ∙ ti.told.0 ∙ ap (done tt) (sym cq)),
          sq ∙ ap (take base) ti.told.1 ∙ o.1,
          omega (arith, nq, fr.told.2, ev.run.told.3, li.told.2, ti.told.2),
        );
      };
    }

-- one arrow
pub turn_past : {cmp : Compare} {b : Tree} {env : Environment} {w : Workspace} (h : Hubs) (k : ℕ) (a : Arrow)
    → get_or (members h) a.tail false ≡ false → Turns cmp b env h k a w w (Ok tt)
unfolding turn
turn_past h k a e = record { run = record { told = (rw e refl, refl, omega arith) } }

pub turn_blank : {cmp : Compare} {b : Tree} {env : Environment} {w v : Workspace} {r : Result (Unit {0}) Full} (h : Hubs) (k : ℕ) (a : Arrow)
    → get_or (members h) a.tail false ≡ true → is_blank_origin a.origin ≡ true
    → Goes (each_at (link_at h.rule.place h.rule.frame (hubs_at h a.tail) (hubs_at h a.head)) 0 h.set (course_of w)) w v r
    → Turns cmp b env h k a w v r
unfolding turn
turn_blank h k a e o g = record { run = rw (e, o) g }

pub turn_body : {cmp : Compare} {b : Tree} {env : Environment} {w v : Workspace} {r : Result (Unit {0}) Full} (h : Hubs) (k : ℕ) (a : Arrow)
    → get_or (members h) a.tail false ≡ true → is_blank_origin a.origin ≡ false
    → Bodies cmp b env h k a w v r
    → Turns cmp b env h k a w v r
unfolding turn
turn_body h k a e o g = record { run = rw (e, o) g.run }

-- what a list that begins with another keeps of it
pub begins_kept : {X : Type 0} (xs ys : List X) (n : ℕ) → Begins xs ys → n ≤ length xs → (take n ys ≡ take n xs) × (n ≤ length ys)
begins_kept xs ys n b h = (
  ap (take n) b.is ∙ take-append-le n xs b.more h,
  omega (arith, simp length-append at (ap length b.is)),
)

pub same_front : {X : Type 0} (xs ys : List X) (n k : ℕ) (d : X) → k < n → take n xs ≡ take n ys → get_or xs k d ≡ get_or ys k d
same_front {X = X} xs ys n k d h e = sym (get_or-take n xs k d h) ∙ ap (λ (l : List X). get_or l k d) e ∙ get_or-take n ys k d h

-- an arrow read while the first n are as they were
pub taken_at : (xs ys : List Arrow) (n k : ℕ) (a : Arrow) → k < n → n ≤ length xs → take n xs ≡ take n ys → a ≡ get_or xs k a → a ≡ get_or (take n ys) k lost
taken_at xs ys n k a l h e g =
    get_or_read xs k a (omega arith) g lost ∙ sym (get_or-take n xs k lost l) ∙ ap (λ (zs : List Arrow). get_or zs k lost) e

-- the hubs of a node of the set, read as an in-map, are nodes
pub hubs_there : (h : Hubs) (v n : ℕ) (i : List ℕ) → i ≡ hubs_at h v → get_or (members h) v false ≡ true → Stands h n → 0 < n → Within n i
hubs_there h v n i e on stands some = subst (λ (x : List ℕ). Within n x) (sym e) (hubs_within (members h) h.set h.first v n on stands some)

pub turn_kept : {cmp : Compare} {b : Tree} {env : Environment} {w v : Workspace} (h : Hubs) (k : ℕ) (a : Arrow)
    → Turns cmp b env h k a w v (Ok tt) → Begins (vec_items w.arrows) (vec_items v.arrows)
turn_kept {cmp} {b} {env} {w} {v} h k a g =
    climbed (turn_of cmp b env h k a) (course_of w) (course_of v) tt
    (climbs_turn h.rule.place h.rule.frame h.set (members h) h.first (eval cmp b) env (eval_climbs cmp b) k a) g.run.told.0

pub hubs_kept : {w v : Workspace} (h : Hubs)
    → Goes (each_at (hubs_step h.rule.place h.rule.frame h.set) 0 (members h) (course_of w)) w v (Ok tt) → Begins (vec_items w.arrows) (vec_items v.arrows)
hubs_kept {w} {v} h g =
    climbed (each_at (hubs_step h.rule.place h.rule.frame h.set) 0 (members h)) (course_of w) (course_of v) tt (climbs_hubs h.rule.place h.rule.frame h.set (members h)) g.told.0

-- the arrows before the hubs, once the hubs are made
pub arrows_then : {w u : Workspace} (h : Hubs) (k : ℕ) → k ≡ length (vec_items w.arrows)
    → Goes (each_at (hubs_step h.rule.place h.rule.frame h.set) 0 (members h) (course_of w)) w u (Ok tt) → take k (vec_items u.arrows) ≡ vec_items w.arrows
arrows_then {w} {u} h k hk hs =
    (begins_kept (vec_items w.arrows) (vec_items u.arrows) k (hubs_kept h hs) (omega arith)).0 ∙ take_all k (vec_items w.arrows) (omega arith)

-- the arrows that T is taken from cross the hubs
pub crossing : (w : Workspace) (r : ℕ) {p f : ℕ} {ms : List Bool} (h : Hubs) (k : ℕ) (a : Arrow)
    → Numbers h p f ms (vec_len w.nodes) (reached (vec_len w.nodes) (vec_items w.arrows) r)
    → k < vec_len w.arrows → a ≡ get_or (vec_items w.arrows) k lost → Crosses h a
crossing w r h k a n l e =
    let xs = vec_items w.arrows in
    let s = reached (vec_len w.nodes) xs r in
    let t : a.tail ≡ tail_at xs k = ap (λ (z : Arrow). z.tail) e in
    let g : a.head ≡ (get_or xs k lost).head = ap (λ (z : Arrow). z.head) e in
    record {
      tail = omega (arith, t, w.tails k l, n.first);
      head = omega (arith, g, w.heads k l, n.first);
      closed = λ q. ap (λ (z : List Bool). get_or z a.head false) n.nodes ∙ ap (λ i. get_or s i false) g
          ∙ reached_closed xs (vec_len w.nodes) r k (omega (arith, w.arrows.ok.0)) (w.tails k l) (w.heads k l)
          (sym (ap (λ i. get_or s i false) t) ∙ sym (ap (λ (z : List Bool). get_or z a.tail false) n.nodes) ∙ q);
    }

-- from the argument's node on
rest_hubs : (cmp : Compare) (b : Tree) (env : Environment) (r : ℕ) {p f : ℕ} {v z : Workspace} {ms : List Bool} {x : Full} (h : Hubs)
    → ms ≡ ins b → Numbers h p f ms (vec_len v.nodes) (reached (vec_len v.nodes) (vec_items v.arrows) r)
    → Goes (each_at (hubs_step h.rule.place h.rule.frame h.set) 0 (members h) (course_of v)) v z (Err x)
    → recur p f (ins b) (eval cmp b) env r (course_of v) ≡ full x
unfolding recur
rest_hubs cmp b env r {v} h em n hs = rw (← em, ← v.nodes.ok.0, ← n.place, ← n.frame, ← n.set, ← n.nodes, hs.told) refl

rest_turns : (cmp : Compare) (b : Tree) (env : Environment) (r : ℕ) {p f : ℕ} {v y z : Workspace} {ms : List Bool} {x : Full} (h : Hubs) (k : ℕ)
    → ms ≡ ins b → Numbers h p f ms (vec_len v.nodes) (reached (vec_len v.nodes) (vec_items v.arrows) r)
    → Goes (each_at (hubs_step h.rule.place h.rule.frame h.set) 0 (members h) (course_of v)) v y (Ok tt)
    → k ≡ length (vec_items v.arrows) → Takes cmp b env h (take k (vec_items y.arrows)) y z (Err x)
    → recur p f (ins b) (eval cmp b) env r (course_of v) ≡ full x
unfolding recur
rest_turns cmp b env r {v} {y} h k em n hs hk ts =
    let e : take k (vec_items y.arrows) ≡ vec_items v.arrows = arrows_then h k hk hs in
    rw (← em, ← v.nodes.ok.0, ← n.place, ← n.frame, ← n.set, ← n.nodes, hs.told.0, ← n.first, ← e, ts.run.told) refl

rest_done : (cmp : Compare) (b : Tree) (env : Environment) (r : ℕ) {p f : ℕ} {v y z : Workspace} {ms : List Bool} (h : Hubs) (k : ℕ) (i : List ℕ)
    → ms ≡ ins b → Numbers h p f ms (vec_len v.nodes) (reached (vec_len v.nodes) (vec_items v.arrows) r)
    → Goes (each_at (hubs_step h.rule.place h.rule.frame h.set) 0 (members h) (course_of v)) v y (Ok tt)
    → k ≡ length (vec_items v.arrows) → Takes cmp b env h (take k (vec_items y.arrows)) y z (Ok tt)
    → i ≡ hubs_at h r
    → recur p f (ins b) (eval cmp b) env r (course_of v) ≡ done i (course_of z)
unfolding recur
rest_done cmp b env r {v} {y} {z} h k i em n hs hk ts hi =
    let e : take k (vec_items y.arrows) ≡ vec_items v.arrows = arrows_then h k hk hs in
    rw (← em, ← v.nodes.ok.0, ← n.place, ← n.frame, ← n.set, ← n.nodes, hs.told.0, ← n.first, ← e, ts.run.told.0) (ap (λ (l : List ℕ). done l (course_of z)) (sym hi))

-- the whole form
pub at_recursion_exit : {cmp : Compare} {b a : Tree} {env : Environment} {p f : ℕ} {w u : Workspace} {x : Full} (r : Result (List ℕ) Full)
    → Evaluates cmp a env f w u (Err x) → IsErrAnd r (λ y. y ≡ x) → Evaluates cmp (t_recursion p b a) env f w u r
unfolding eval
at_recursion_exit r part err = record { run = exits r err (rw part.run.told refl) }

-- after the argument
abbrev rest : Run (List ℕ) → Run Maps
rest run = onward run (λ into. give (maps into []))

then : {cmp : Compare} {a : Tree} {env : Environment} {f : ℕ} {w u : Workspace} {o : List ℕ} (b : Tree) (p : ℕ) (v : Workspace)
    → Evaluates cmp a env f w u (Ok o) → course_of v ≡ course_of u
    → eval cmp (t_recursion p b a) env f (course_of w) ≡ rest (recur p f (ins b) (eval cmp b) env (get_or o 0 0) (course_of v))
unfolding eval
then {cmp} {env} {f} {o} b p v part cv =
    rw part.run.told.1 (ap (λ (c : Course). rest (recur p f (ins b) (eval cmp b) env (get_or o 0 0) c)) (sym cv))

pub at_recursion_hubs : {cmp : Compare} {b a : Tree} {env : Environment} {p f : ℕ} {w u v z : Workspace} {o : List ℕ} {ms : List Bool} {x : Full} (h : Hubs) (r : Result (List ℕ) Full)
    → Evaluates cmp a env f w u (Ok o) → course_of v ≡ course_of u → ms ≡ ins b
    → Numbers h p f ms (vec_len v.nodes) (reached (vec_len v.nodes) (vec_items v.arrows) (get_or o 0 0))
    → Goes (each_at (hubs_step h.rule.place h.rule.frame h.set) 0 (members h) (course_of v)) v z (Err x) → IsErrAnd r (λ y. y ≡ x)
    → Evaluates cmp (t_recursion p b a) env f w z r
at_recursion_hubs {cmp} {b} {env} {p} {v} {o} h r part cv em n hs err =
    record { run = exits r err (then b p v part cv ∙ ap rest (rest_hubs cmp b env (get_or o 0 0) h em n hs)) }

pub at_recursion_turns : {cmp : Compare} {b a : Tree} {env : Environment} {p f : ℕ} {w u v y z : Workspace} {o : List ℕ} {ms : List Bool} {x : Full} (h : Hubs) (k : ℕ) (r : Result (List ℕ) Full)
    → Evaluates cmp a env f w u (Ok o) → course_of v ≡ course_of u → ms ≡ ins b
    → Numbers h p f ms (vec_len v.nodes) (reached (vec_len v.nodes) (vec_items v.arrows) (get_or o 0 0))
    → Goes (each_at (hubs_step h.rule.place h.rule.frame h.set) 0 (members h) (course_of v)) v y (Ok tt)
    → k ≡ length (vec_items v.arrows) → Takes cmp b env h (take k (vec_items y.arrows)) y z (Err x) → IsErrAnd r (λ y. y ≡ x)
    → Evaluates cmp (t_recursion p b a) env f w z r
at_recursion_turns {cmp} {b} {env} {p} {v} {o} h k r part cv em n hs hk ts err =
    record { run = exits r err (then b p v part cv ∙ ap rest (rest_turns cmp b env (get_or o 0 0) h k em n hs hk ts)) }

pub at_recursion : {cmp : Compare} {b a : Tree} {env : Environment} {p f base : ℕ} {w u v y z : Workspace} {o : List ℕ} {ms : List Bool} (h : Hubs) (k : ℕ) (i : List ℕ)
    → Evaluates cmp a env f w u (Ok o) → base ≡ length (stack w) → course_of v ≡ course_of u → stack v ≡ take base (stack u) → size v ≡ size u → ms ≡ ins b
    → Numbers h p f ms (vec_len v.nodes) (reached (vec_len v.nodes) (vec_items v.arrows) (get_or o 0 0))
    → Goes (each_at (hubs_step h.rule.place h.rule.frame h.set) 0 (members h) (course_of v)) v y (Ok tt)
    → k ≡ length (vec_items v.arrows) → Takes cmp b env h (take k (vec_items y.arrows)) y z (Ok tt)
    → i ≡ hubs_at h (get_or o 0 0) → Within (size z) i
    → Evaluates cmp (t_recursion p b a) env f w z (Ok i)
at_recursion {cmp} {b} {env} {p} {base} {w} {u} {v} {y} {z} {o} h k i part hb cv sv nv em n hs hk ts hi wi =
    record {
      run = record {
        told = (
          [],
          then b p v part cv ∙ ap rest (rest_done cmp b env (get_or o 0 0) h k i em n hs hk ts hi),
          ts.run.told.1 ∙ hs.told.1 ∙ sv ∙ ap (take base) part.run.told.2 ∙ take_at (stack w) part.run.told.0 base (sym hb) ∙ sym (append-nil (stack w)),
          omega (arith, ts.run.told.2, hs.told.2, nv, part.run.told.3),
          wi,
        );
      };
    }
