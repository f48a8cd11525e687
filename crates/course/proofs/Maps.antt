-- In-maps and environments: their nodes are there; loops that fill an in-map or go through part of a list. Assumes nothing.
use Rattle.std.proofs.Common.{◌≡◌, ℕ, zero, suc, ◌+◌, ◌-◌, ◌<◌, ◌≤◌, Bool, true, false, List, [], ◌∷◌, ◌++◌, length, get_or, take, drop, set, replicate, IsErrAnd, Ok, Err, Result, sym, refl, ap, ◌∙◌, append_assoc, append-nil, add-one, subst, ⊎_elim, length-append, length-drop, arith}
use Rattle.std.proofs.lemmas.List.{drop_more, drop_all, take_more, take_more_set, take_all, get_or-drop, get_or-take, length-take-le}
use Rattle.std.proofs.lemmas.Bool.{cases_lt}
use Rattle.std.proofs.Math.ListN.{get_or-append}
use Rattle.std.proofs.Math.Seq.{get_or-append_right}
use Rattle.course.specs.declared.workspace.Workspace.{Workspace}
use Rattle.course.specs.declared.course.Full.{Full}
use Rattle.course.specs.declared.course.Origin.{Origin}
use Rattle.course.specs.declared.environment.Binding.{Binding}
use Rattle.course.specs.declared.environment.Environment.{Environment}
use Rattle.course.specs.Course.{Course, Run, done, full, Step, onward, give, branch, nodes_for, each}
use Rattle.course.specs.Forward.{only, empty, merged, binding, unbound, deeper, outermost}
use Rattle.course.specs.View.{Within, Bound, Goes, Makes}

-- a fact of every element, also past the end
pub every_replicate : {X : Type 0} (P : X → Type 0) (d : X) → P d → (n k : ℕ) → P (get_or (replicate n d) k d)
every_replicate P d h zero k = h
every_replicate P d h (suc n) zero = h
every_replicate P d h (suc n) (suc k) = every_replicate P d h n k

pub every_set : {X : Type 0} (P : X → Type 0) (d : X) (i : ℕ) (v : X) (xs : List X) → P v → ((k : ℕ) → P (get_or xs k d)) → (k : ℕ) → P (get_or (set xs i v) k d)
every_set P d i v [] l w k = w k
every_set P d zero v (x ∷ xs) l w zero = l
every_set P d zero v (x ∷ xs) l w (suc k) = w (suc k)
every_set P d (suc i) v (x ∷ xs) l w zero = w zero
every_set P d (suc i) v (x ∷ xs) l w (suc k) = every_set P d i v xs l (λ j. w (suc j)) k

pub empty_within : (n : ℕ) → 0 < n → Within n empty
empty_within n h = every_replicate (λ v. v < n) 0 h 8

pub set_within : (n i v : ℕ) (into : List ℕ) → v < n → Within n into → Within n (set into i v)
set_within n i v into h w = every_set (λ x. x < n) 0 i v into h w

pub only_within : (n m v : ℕ) → v < n → Within n (only m v)
only_within n m v h = set_within n m v empty h (empty_within n (omega arith))

pub wider : (n l : ℕ) (into : List ℕ) → n ≤ l → Within n into → Within l into
wider n l into h w k = omega (arith, w k)

-- the nodes of an environment
pub bound_up : (n l : ℕ) (env : Environment) → n ≤ l → Bound env n → Bound env l
bound_up n l env h b j = omega (arith, b j)

pub bound_deeper : (n : ℕ) (env : Environment) (o : Origin) (v : ℕ) → v < n → Bound env n → Bound (deeper env o v) n
bound_deeper n env o v h b = every_set (λ (x : Binding). x.node < n) unbound (env.level + 1) (binding o v) env.bindings h b

pub bound_outermost : (n : ℕ) → 0 < n → Bound outermost n
bound_outermost n h = every_replicate (λ (x : Binding). x.node < n) unbound h 5

pub merged_within : (n : ℕ) (ms : List Bool) (a b : List ℕ) → 0 < n → Within n a → Within n b → Within n (merged ms a b)
unfolding merged
merged_within n [] a b h wa wb k = h
merged_within n (t ∷ ms) [] b h wa wb k = h
merged_within n (t ∷ ms) (x ∷ a) [] h wa wb k = h
merged_within n (true ∷ ms) (x ∷ a) (y ∷ b) h wa wb zero = wa zero
merged_within n (false ∷ ms) (x ∷ a) (y ∷ b) h wa wb zero = wb zero
merged_within n (t ∷ ms) (x ∷ a) (y ∷ b) h wa wb (suc k) = merged_within n ms a b h (λ j. wa (suc j)) (λ j. wb (suc j)) k

-- before the first marker of a set
pub nodes_first : (run : Run (List ℕ)) → run ≡ onward run (λ vs. give vs)
nodes_first (done vs c) = refl
nodes_first (full x) = refl

-- one marker of a set, and the end
onward_maps : (run : Run (List ℕ)) (v : ℕ) (p q : List ℕ) → q ≡ p ++ v ∷ []
    → onward (onward run (λ vs. give (v ∷ vs))) (λ vs. give (p ++ vs)) ≡ onward run (λ vs. give (q ++ vs))
onward_maps (done vs c) v p q e = ap (λ (l : List ℕ). done l c) (sym (ap (λ (l : List ℕ). l ++ vs) e ∙ append_assoc p (v ∷ []) vs))
onward_maps (full x) v p q e = refl

pub nodes_more : (step : ℕ → Step ℕ) (ms : List Bool) (i : ℕ) (b : Bool) (into : List ℕ) (v : ℕ) (c d : Course) → i < length ms → b ≡ get_or ms i false → i < length into
    → branch b (step i) (give 0) c ≡ done v d
    → onward (nodes_for step i (drop i ms) c) (λ vs. give (take i into ++ vs)) ≡ onward (nodes_for step (i + 1) (drop (i + 1) ms) d) (λ vs. give (take (i + 1) (set into i v) ++ vs))
unfolding nodes_for
nodes_more step ms i b into v c d h e l q =
    rw (drop_more ms i false h, ← e, q, add-one) (onward_maps (nodes_for step (suc i) (drop (suc i) ms) d) v (take i into) (take (suc i) (set into i v)) (rw (← add-one) (take_more_set into i v l)))

-- past a marker outside the set
pub nodes_past : (step : ℕ → Step ℕ) (ms : List Bool) (i : ℕ) (into : List ℕ) (c : Course) → i < length ms → get_or ms i false ≡ false → i < length into → get_or into i 0 ≡ 0
    → onward (nodes_for step i (drop i ms) c) (λ vs. give (take i into ++ vs)) ≡ onward (nodes_for step (i + 1) (drop (i + 1) ms) c) (λ vs. give (take (i + 1) into ++ vs))
unfolding nodes_for
nodes_past step ms i into c h e l z =
    rw (drop_more ms i false h, e, add-one)
    (onward_maps (nodes_for step (suc i) (drop (suc i) ms) c) 0 (take i into) (take (suc i) into) (rw (← add-one) (take_more into i 0 l ∙ ap (λ (v : ℕ). take i into ++ v ∷ []) z)))

pub nodes_none : (step : ℕ → Step ℕ) (ms : List Bool) (i : ℕ) (into : List ℕ) (c : Course) → length ms ≤ i → length into ≤ i
    → onward (nodes_for step i (drop i ms) c) (λ vs. give (take i into ++ vs)) ≡ done into c
unfolding nodes_for
nodes_none step ms i into c h l = rw (drop_all i ms h) (ap (λ (z : List ℕ). done z c) (append-nil (take i into) ∙ take_all i into l))

pub nodes_stops : (step : ℕ → Step ℕ) (ms : List Bool) (i : ℕ) (b : Bool) (into : List ℕ) (c : Course) {x : Full} → i < length ms → b ≡ get_or ms i false
    → branch b (step i) (give 0) c ≡ full x
    → onward (nodes_for step i (drop i ms) c) (λ vs. give (take i into ++ vs)) ≡ full x
unfolding nodes_for
nodes_stops step ms i b into c h e q = rw (drop_more ms i false h, ← e, q) refl

-- a step for each element of part of a list
pub next : {X : Type 0} (s : List X) (i m : ℕ) (x : X) → i < m → i < length s → x ≡ get_or s i x
    → take (m - i) (drop i s) ≡ x ∷ take (m - (i + 1)) (drop (i + 1) s)
next s i m x h l e =
    let n : m - i ≡ suc (m - (i + 1)) = omega arith in
    rw (n, drop_more s i x l, ← e) refl

pub each_more : {X : Type 0} (step : X → Step (Unit {0})) (s : List X) (i m : ℕ) (x : X) {c d : Course}
    → i < m → i < length s → x ≡ get_or s i x → step x c ≡ done tt d
    → each step (take (m - i) (drop i s)) c ≡ each step (take (m - (i + 1)) (drop (i + 1) s)) d
unfolding each
each_more step s i m x h l e t = rw (next s i m x h l e, t) refl

pub each_stops : {X : Type 0} (step : X → Step (Unit {0})) (s : List X) (i m : ℕ) (x : X) {c : Course} {y : Full}
    → i < m → i < length s → x ≡ get_or s i x → step x c ≡ full y → each step (take (m - i) (drop i s)) c ≡ full y
unfolding each
each_stops step s i m x h l e t = rw (next s i m x h l e, t) refl

pub each_none : {X : Type 0} (step : X → Step (Unit {0})) (s : List X) (i m : ℕ) {c : Course}
    → m ≤ i → each step (take (m - i) (drop i s)) c ≡ done tt c
unfolding each
each_none step s i m h = let e : m - i ≡ 0 = omega arith in rw e refl

-- the exit of a `?`
pub goes_exit : {run : Run (Unit {0})} {w v : Workspace} {x : Full} (r : Result (Unit {0}) Full)
    → IsErrAnd r (λ y. y ≡ x) → run ≡ full x → Goes run w v r
goes_exit (Ok n) e s = absurd e
goes_exit (Err y) e s = record { told = s ∙ ap full (sym e) }

pub makes_exit : {run : Run (List ℕ)} {w v : Workspace} {x : Full} (r : Result (List ℕ) Full)
    → IsErrAnd r (λ y. y ≡ x) → run ≡ full x → Makes run w v r
makes_exit (Ok n) e s = absurd e
makes_exit (Err y) e s = record { told = s ∙ ap full (sym e) }

-- a fact of every element, where a part is taken out
pub every_cut : {X : Type 0} (d : X) (P : X → Type 0) (xs ys : List X) (b m : ℕ) → b ≤ m → m ≤ length xs → ys ≡ take b xs ++ drop m xs
    → ((k : ℕ) → k < length xs → P (get_or xs k d)) → (k : ℕ) → k < length ys → P (get_or ys k d)
every_cut d P xs ys b m lo hi e old k h =
    let front : length (take b xs) ≡ b = length-take-le b xs (omega arith) in
    let long : length ys ≡ length (take b xs) + (length xs - m) = simp (length-append, length-drop) at (ap length e) in
    ⊎_elim
    (λ q. subst P (sym (ap (λ z. get_or z k d) e ∙ get_or-append (take b xs) (drop m xs) d k (omega arith) ∙ get_or-take b xs k d q)) (old k (omega arith)))
    (λ q. subst P (sym (ap (λ z. get_or z k d) e ∙ get_or-append_right (take b xs) (drop m xs) k d (omega arith) ∙ get_or-drop m xs (k - length (take b xs)) d)) (old (m + (k - length (take b xs))) (omega arith)))
    (cases_lt k b)
