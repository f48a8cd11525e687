-- A recursion is the run of its rule over the nodes reached and the arrows that leave them. Assumes nothing.
use Rattle.std.proofs.Common.{◌≡◌, ℕ, zero, suc, ◌+◌, ◌*◌, Bool, true, false, cond, List, [], ◌∷◌, length, get_or, take, sym, refl, ap, ◌∙◌, inl, inr, arith}
use Rattle.std.proofs.lemmas.Bool.{both_ways}
use Rattle.course.specs.declared.course.Arrow.{Arrow}
use Rattle.course.specs.declared.course.Origin.TheVariants.{Blank}
use Rattle.course.specs.declared.environment.Environment.{Environment}
use Rattle.course.specs.declared.environment.Out.{Out}
use Rattle.course.specs.Course.{is_blank_origin, Course, Run, done, full, Step, onward, give, ◌>>◌, branch, enter_node, enter_frame, new_arrow, each, each_at}
use Rattle.walks.specs.Reach.{In, among, trues}
use Rattle.course.specs.Reach.{reached}
use Rattle.course.specs.Hubs.{hub, slots, hubs}
use Rattle.course.specs.Forward.{Maps, deeper, tie, hub_step, hubs_step, link_at, run_body, turn, recur}
use Rattle.laws.specs.Recursion.{members, Numbered, leaving, below, hub_of, hub_node, enter_hubs, take_arrow, RecursionRule, HubNumbers}
use Rattle.laws.proofs.Members.{among_members, in_members, below_members, length_members}

onward_same : {X Y : Type 0} (run : Run X) (k l : X → Step Y) → ((x : X) (c : Course) → k x c ≡ l x c) → onward run k ≡ onward run l
onward_same (done x c) k l h = h x c
onward_same (full e) k l h = refl

branch_same : {X : Type 0} (b : Bool) (m n k l : Step X) → ((c : Course) → m c ≡ n c) → ((c : Course) → k c ≡ l c) → (c : Course) → branch b m k c ≡ branch b n l c
branch_same true m n k l h t c = h c
branch_same false m n k l h t c = t c

each_same : {X : Type 0} (s t : X → Step (Unit {0})) (xs : List X) → ((x : X) → In x xs → (c : Course) → s x c ≡ t x c) → (c : Course) → each s xs c ≡ each t xs c
unfolding each
each_same s t [] h c = refl
each_same s t (x ∷ xs) h c =
    ap (λ run. onward run (λ y. each s xs)) (h x (inl refl) c)
    ∙ onward_same (t x c) (λ y. each s xs) (λ y. each t xs) (λ y d. each_same s t xs (λ z i. h z (inr i)) d)

-- a step for each flag that is set is a step for each member
pub each_members : (s : ℕ → Step (Unit {0})) (i : ℕ) (bs : List Bool) (c : Course) → each_at (λ j b. branch b (s j) (give tt)) i bs c ≡ each s (members i bs) c
unfolding each each_at
each_members s i [] c = refl
each_members s i (true ∷ bs) c = onward_same (s i c) _ _ (λ y d. each_members s (suc i) bs d)
each_members s i (false ∷ bs) c = each_members s (suc i) bs c

-- a step for each arrow with its tail in a set is a step for each arrow that leaves the set
each_leaving : (S : List ℕ) (s : ℕ → Arrow → Step (Unit {0})) (t : Numbered → Step (Unit {0})) →
    ((k : ℕ) (a : Arrow) (c : Course) → s k a c ≡ branch (among a.tail S) (t (record { number = k; arrow = a })) (give tt) c) →
    (k : ℕ) (arrows : List Arrow) (c : Course) → each_at s k arrows c ≡ each t (leaving S k arrows) c
unfolding each each_at
each_leaving S s t h k [] c = refl
each_leaving S s t h k (a ∷ arrows) c =
    ap (λ run. onward run (λ y. each_at s (suc k) arrows)) (h k a c)
    ∙ onward_same (branch (among a.tail S) (t (record { number = k; arrow = a })) (give tt) c) _ _ (λ y d. each_leaving S s t h (suc k) arrows d)
    ∙ on (among a.tail S)
  where
    on : (b : Bool) →
        onward (branch b (t (record { number = k; arrow = a })) (give tt) c) (λ y. each t (leaving S (suc k) arrows))
        ≡ each t (cond b (record { number = k; arrow = a } ∷ leaving S (suc k) arrows) (leaving S (suc k) arrows)) c
    on true = refl
    on false = refl

get_or_slots : (g : ℕ → ℕ) (i m : ℕ) (ms : List Bool) → get_or ms m false ≡ true → get_or (slots g i ms) m 0 ≡ g (i + m)
unfolding slots
get_or_slots g i m [] h = absurd (both_ways false refl h)
get_or_slots g i zero (true ∷ ms) h = ap g (let e : i ≡ i + 0 = omega arith in e)
get_or_slots g i zero (false ∷ ms) h = absurd (both_ways false refl h)
get_or_slots g i (suc m) (b ∷ ms) h = get_or_slots g (suc i) m ms h ∙ ap g (let e : suc i + m ≡ i + suc m = omega arith in e)

slots_same : (g k : ℕ → ℕ) → ((m : ℕ) → g m ≡ k m) → (i : ℕ) (ms : List Bool) → slots g i ms ≡ slots k i ms
unfolding slots
slots_same g k h i [] = refl
slots_same g k h i (b ∷ ms) = ap (λ x. cond b x 0 ∷ slots g (suc i) ms) (h i) ∙ ap (λ l. cond b (k i) 0 ∷ l) (slots_same g k h (suc i) ms)

-- hubs are numbered alike by flags and by members
pub hub_same : HubNumbers
hub_same s ms h v m =
    ap (λ x. h + x * trues ms + trues (take m ms)) (sym (below_members v s))
    ∙ ap (λ x. h + below v (members 0 s) * x + trues (take m ms)) (sym (length_members 0 ms))
    ∙ ap (λ x. h + below v (members 0 s) * length (members 0 ms) + x) (sym (below_members m ms))

pub hubs_at : (s ms : List Bool) (h v m : ℕ) → get_or ms m false ≡ true → get_or (hubs s ms h v) m 0 ≡ hub_of h (members 0 s) (members 0 ms) v m
hubs_at s ms h v m q = get_or_slots (hub s ms h v) 0 m ms q ∙ ap (hub s ms h v) (let e : 0 + m ≡ m = omega arith in e) ∙ hub_same s ms h v m

pub hubs_entered : (p f : ℕ) (s ms : List Bool) (c : Course) → each_at (hubs_step p f ms) 0 s c ≡ enter_hubs p f (members 0 s) (members 0 ms) c
hubs_entered p f s ms c =
    each_members (λ v. each_at (hub_step p f v) 0 ms) 0 s c
    ∙ each_same (λ v. each_at (hub_step p f v) 0 ms) _ (members 0 s) (λ v i d. each_members (λ m. enter_node (hub_node p f v m) >> give tt) 0 ms d) c

module _ (p f : ℕ) (s ms : List Bool) (h : ℕ) (body : Environment → ℕ → Step Maps) (env : Environment) where
  abbrev numbered : ℕ → ℕ → ℕ
  numbered = hub_of h (members 0 s) (members 0 ms)

  links_same : (tails heads : List ℕ) (u t : ℕ → ℕ) →
      ((m : ℕ) → get_or ms m false ≡ true → get_or tails m 0 ≡ u m) → ((m : ℕ) → get_or ms m false ≡ true → get_or heads m 0 ≡ t m) →
      (c : Course) → each_at (link_at p f tails heads) 0 ms c ≡ each (λ m. new_arrow (u m) (t m) Blank p f) (members 0 ms) c
  links_same tails heads u t hu ht c =
      each_members (λ m. new_arrow (get_or tails m 0) (get_or heads m 0) Blank p f) 0 ms c
      ∙ each_same (λ m. new_arrow (get_or tails m 0) (get_or heads m 0) Blank p f) (λ m. new_arrow (u m) (t m) Blank p f) (members 0 ms)
      (λ m i d. ap (λ x. new_arrow x (get_or heads m 0) Blank p f d) (hu m (in_members m ms i)) ∙ ap (λ x. new_arrow (u m) x Blank p f d) (ht m (in_members m ms i))) c

  tie_same : (t : ℕ) (o : Out) (c : Course) →
      tie p f ms (hubs s ms h t) o c ≡ branch (among o.marker (members 0 ms)) (new_arrow o.node (numbered t o.marker) Blank p f) (give tt) c
  tie_same t o c = on (get_or ms o.marker false) refl ∙ ap (λ b. branch b (new_arrow o.node (numbered t o.marker) Blank p f) (give tt) c) (sym (among_members o.marker ms))
    where
      on : (b : Bool) → get_or ms o.marker false ≡ b →
          branch b (new_arrow o.node (get_or (hubs s ms h t) o.marker 0) Blank p f) (give tt) c ≡ branch b (new_arrow o.node (numbered t o.marker) Blank p f) (give tt) c
      on true e = ap (λ x. new_arrow o.node x Blank p f c) (hubs_at s ms h t o.marker e)
      on false e = refl

  body_same : (u t : ℕ) (inner : Environment) (k : ℕ) (c : Course) →
      run_body p f ms (hubs s ms h u) (hubs s ms h t) body inner k c
      ≡ onward (enter_frame p f (record { parent = f; place = p; arrow = k }) c)
      (λ g d. onward (body inner g d) (λ n e. onward (each (λ m. new_arrow (numbered u m) (get_or n.into m 0) Blank p f) (members 0 ms) e)
      (λ y. each (λ (o : Out). branch (among o.marker (members 0 ms)) (new_arrow o.node (numbered t o.marker) Blank p f) (give tt)) n.outs)))
  unfolding run_body
  body_same u t inner k c =
      onward_same (enter_frame p f (record { parent = f; place = p; arrow = k }) c) _ _ λ g d.
      onward_same (body inner g d) _ _ λ n e.
      ap (λ run. onward run (λ y. each (tie p f ms (hubs s ms h t)) n.outs))
      (links_same (hubs s ms h u) n.into (numbered u) (λ m. get_or n.into m 0) (λ m q. hubs_at s ms h u m q) (λ m q. refl) e)
      ∙ onward_same (each (λ m. new_arrow (numbered u m) (get_or n.into m 0) Blank p f) (members 0 ms) e) _ _
      (λ y d'. each_same (tie p f ms (hubs s ms h t)) _ n.outs (λ o i e'. tie_same t o e') d')

  turn_same : (k : ℕ) (a : Arrow) (c : Course) →
      turn p f ms s h body env k a c
      ≡ branch (among a.tail (members 0 s)) (take_arrow p f (members 0 ms) numbered body env (record { number = k; arrow = a })) (give tt) c
  unfolding turn
  turn_same k a c =
      branch_same (get_or s a.tail false) _ (take_arrow p f (members 0 ms) numbered body env (record { number = k; arrow = a })) (give tt) (give tt)
      (λ d. branch_same (is_blank_origin a.origin) _ _ _ _
      (links_same (hubs s ms h a.tail) (hubs s ms h a.head) (numbered a.tail) (numbered a.head) (λ m q. hubs_at s ms h a.tail m q) (λ m q. hubs_at s ms h a.head m q))
      (body_same a.tail a.head (deeper env a.origin a.head) k) d)
      (λ d. refl) c
      ∙ ap (λ b. branch b (take_arrow p f (members 0 ms) numbered body env (record { number = k; arrow = a })) (give tt) c) (sym (among_members a.tail s))

pub recursion_rule : RecursionRule
unfolding recur
recursion_rule p f ms body env r c =
    let h = length c.nodes in
    let s = reached h c.arrows r in
    ap (λ run. onward run (λ x. each_at (turn p f ms s h body env) 0 c.arrows >> give (hubs s ms h r))) (hubs_entered p f s ms c)
    ∙ onward_same (enter_hubs p f (members 0 s) (members 0 ms) c) _ _ λ x d.
    ap (λ run. onward run (λ y. give (hubs s ms h r))) (each_leaving (members 0 s) (turn p f ms s h body env) _ (turn_same p f s ms h body env) 0 c.arrows d)
    ∙ onward_same (each (take_arrow p f (members 0 ms) (hub_of h (members 0 s) (members 0 ms)) body env) (leaving (members 0 s) 0 c.arrows) d) _ _
    (λ y e. ap (λ l. give l e) (slots_same (hub s ms h r) (hub_of h (members 0 s) (members 0 ms) r) (λ m. hub_same s ms h r m) 0 ms))
