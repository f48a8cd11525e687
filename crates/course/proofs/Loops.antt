-- One turn of a loop over a list with its numbers, where it stops, and its end. Assumes nothing.
use Rattle.std.proofs.Common.{◌≡◌, ℕ, ◌+◌, ◌<◌, ◌≤◌, Bool, true, false, List, length, get_or, drop, IsErrAnd, Ok, Err, Result, refl, ◌∙◌, add-one, arith}
use Rattle.std.proofs.lemmas.List.{drop_more, drop_all}
use Rattle.course.specs.declared.course.Full.{Full}
use Rattle.course.specs.declared.workspace.Workspace.{Workspace}
use Rattle.course.specs.Course.{Course, Run, done, full, Step, onward, give, each_at}
use Rattle.course.specs.View.{course_of, stack, size, Steps, Goes}
use Rattle.course.proofs.Maps.{goes_exit}

pub at_more : {X : Type 0} (step : ℕ → X → Step (Unit {0})) (s : List X) (k : ℕ) (d : X) (c e : Course)
    → k < length s → step k (get_or s k d) c ≡ done tt e → each_at step k (drop k s) c ≡ each_at step (k + 1) (drop (k + 1) s) e
unfolding each_at
at_more step s k d c e l t = rw (drop_more s k d l, t, add-one) refl

pub at_stops : {X : Type 0} (step : ℕ → X → Step (Unit {0})) (s : List X) (k : ℕ) (d : X) (c : Course) {y : Full}
    → k < length s → step k (get_or s k d) c ≡ full y → each_at step k (drop k s) c ≡ full y
unfolding each_at
at_stops step s k d c l t = rw (drop_more s k d l, t) refl

pub at_none : {X : Type 0} (step : ℕ → X → Step (Unit {0})) (s : List X) (k : ℕ) (c : Course) → length s ≤ k → each_at step k (drop k s) c ≡ done tt c
unfolding each_at
at_none step s k c h = rw (drop_all k s h) refl

-- as far as a loop over a list with its numbers has come: from w, with the first k elements done, to v
pub record Going {X : Type 0} (step : ℕ → X → Step (Unit {0})) (s : List X) (k : ℕ) (w v : Workspace) : Type 0 where
  pub run : each_at step 0 s (course_of w) ≡ each_at step k (drop k s) (course_of v)
  pub stands : stack v ≡ stack w
  pub grows : size w ≤ size v

-- one more element
pub going_on : {X : Type 0} {step : ℕ → X → Step (Unit {0})} {s : List X} {k : ℕ} {w v u : Workspace} (d : X)
    → Going step s k w v → k < length s → Goes (step k (get_or s k d) (course_of v)) v u (Ok tt) → Going step s (k + 1) w u
going_on {step} {s} {k} {v} {u} d g l t =
    record {
      run = g.run ∙ at_more step s k d (course_of v) (course_of u) l t.told.0;
      stands = t.told.1 ∙ g.stands;
      grows = omega (arith, t.told.2, g.grows);
    }

pub going_stops : {X : Type 0} {step : ℕ → X → Step (Unit {0})} {s : List X} {k : ℕ} {w v u : Workspace} {x : Full} (d : X) (r : Result (Unit {0}) Full)
    → Going step s k w v → k < length s → Goes (step k (get_or s k d) (course_of v)) v u (Err x) → IsErrAnd r (λ y. y ≡ x) → Goes (each_at step 0 s (course_of w)) w u r
going_stops {step} {s} {k} {v} d r g l t e = goes_exit r e (g.run ∙ at_stops step s k d (course_of v) l t.told)

pub going_ends : {X : Type 0} {step : ℕ → X → Step (Unit {0})} {s : List X} {k : ℕ} {w v : Workspace}
    → Going step s k w v → length s ≤ k → Goes (each_at step 0 s (course_of w)) w v (Ok tt)
going_ends {step} {s} {k} {v} g l = record { told = (g.run ∙ at_none step s k (course_of v) l, g.stands, g.grows) }

-- a flag that is set, and one that is not
pub going_set : {step : ℕ → Bool → Step (Unit {0})} {s : List Bool} {k : ℕ} {w v u z : Workspace}
    → Going step s k w v → k < length s → get_or s k false ≡ true → Goes (step k true (course_of v)) v u (Ok tt) → z ≡ u → Going step s (k + 1) w z
going_set g l on t e = rw (e) (going_on false g l (rw on t))

pub going_past : {step : ℕ → Bool → Step (Unit {0})} {s : List Bool} {k : ℕ} {w v z : Workspace}
    → Going step s k w v → k < length s → get_or s k false ≡ false → step k false (course_of v) ≡ done tt (course_of v) → z ≡ v → Going step s (k + 1) w z
going_past {v} g l off t e = rw (e) (going_on {u = v} false g l (rw off (record { told = (t, refl, omega arith) })))

pub going_stops_set : {step : ℕ → Bool → Step (Unit {0})} {s : List Bool} {k : ℕ} {w v u : Workspace} {x : Full} (r : Result (Unit {0}) Full)
    → Going step s k w v → k < length s → get_or s k false ≡ true → Goes (step k true (course_of v)) v u (Err x) → IsErrAnd r (λ y. y ≡ x) → Goes (each_at step 0 s (course_of w)) w u r
going_stops_set r g l on t e = going_stops false r g l (rw on t) e

-- a step that answers a node, without its answer
pub steps_go : {run : Run ℕ} {w v : Workspace} {n : ℕ} → Steps run w v (Ok n) → Goes (onward run (λ x. give tt)) w v (Ok tt)
steps_go s = record { told = (rw s.told.0 refl, s.told.1, s.told.2) }

pub steps_stop : {run : Run ℕ} {w v : Workspace} {x : Full} → Steps run w v (Err x) → Goes (onward run (λ x. give tt)) w v (Err x)
steps_stop s = record { told = rw s.told refl }
