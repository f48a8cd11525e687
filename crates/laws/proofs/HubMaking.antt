-- The hubs that a recursion makes, and their numbers. Assumes nothing.
use Rattle.std.proofs.Common.{◌≡◌, ℕ, zero, suc, ◌+◌, ◌*◌, ◌<◌, ◌≤◌, Bool, true, false, cond, ltb, List, [], ◌∷◌, ◌++◌, map, length, get_or, sym, refl, ap, ◌∙◌, subst, append_assoc, append-nil, mul-le-mul_right, add-mul, arith, length-append}
use Rattle.std.specs.List.{flat_map}
use Rattle.std.proofs.lemmas.List.{get_or-append-add, get_or_append_left, get_or-map, length-map}
use Rattle.std.proofs.lemmas.Bool.{ltb-true}
use Rattle.course.specs.declared.course.Node.{Node}
use Rattle.course.specs.declared.course.Full.{Full}
use Rattle.course.specs.declared.course.ListName.TheVariants.{Nodes}
use Rattle.course.specs.Course.{full_at, Course, Run, done, full, Step, onward, give, ◌>>◌, enter_node, each}
use Rattle.walks.specs.Reach.{In}
use Rattle.laws.specs.Every.{Ascending}
use Rattle.laws.specs.Recursion.{below, hub_of, hub_node, enter_hubs, HubsMade, HubsExact}
use Rattle.laws.proofs.Members.{get_or_below, below_length}

-- a course with more nodes
abbrev pub more : Course → List Node → Course
more c xs = record { nodes = c.nodes ++ xs; arrows = c.arrows; frames = c.frames; comparisons = c.comparisons }

-- where the run is done, it has entered these nodes and nothing else
pub data Makes (c : Course) (xs : List Node) : Run (Unit {0}) → Type 0 where
  made : (length c.nodes ≤ 1024 → length c.nodes + length xs ≤ 1024) → Makes c xs (done tt (more c xs))
  stopped : {e : Full} → Makes c xs (full e)

makes_on : (c : Course) (xs ys : List Node) (run : Run (Unit {0})) → (length c.nodes ≤ 1024 → length c.nodes + length xs ≤ 1024) →
    Makes (more c xs) ys run → Makes c (xs ++ ys) run
makes_on c xs ys run b (made b') =
    subst (λ (l : List Node). Makes c (xs ++ ys) (done tt (record { nodes = l; arrows = c.arrows; frames = c.frames; comparisons = c.comparisons })))
    (sym (append_assoc c.nodes xs ys))
    (made (λ h.
    let e = length-append c.nodes xs in
    let e' = length-append xs ys in
    let q : length c.nodes + length xs ≤ 1024 = b h in
    let q' : length (c.nodes ++ xs) + length ys ≤ 1024 = b' (omega arith) in
    omega arith))
makes_on c xs ys run b stopped = stopped

makes_onward : (c : Course) (xs ys : List Node) (run : Run (Unit {0})) (k : Step (Unit {0})) → Makes c xs run → ((d : Course) → Makes d ys (k d)) →
    Makes c (xs ++ ys) (onward run (λ y. k))
makes_onward c xs ys run k (made b) t = makes_on c xs ys (k (more c xs)) b (t (more c xs))
makes_onward c xs ys run k stopped t = stopped

makes_none : (c : Course) → Makes c [] (done tt c)
makes_none c =
    subst (λ (l : List Node). Makes c [] (done tt (record { nodes = l; arrows = c.arrows; frames = c.frames; comparisons = c.comparisons })))
    (append-nil c.nodes) (made (λ h. omega arith))

makes_each : {X : Type 0} (g : X → List Node) (s : X → Step (Unit {0})) → ((x : X) (c : Course) → Makes c (g x) (s x c)) →
    (xs : List X) (c : Course) → Makes c (flat_map g xs) (each s xs c)
unfolding each
makes_each g s h [] c = makes_none c
makes_each g s h (x ∷ xs) c = makes_onward c (g x) (flat_map g xs) (s x c) (each s xs) (h x c) (λ d. makes_each g s h xs d)

makes_node : (n : Node) (c : Course) → Makes c (n ∷ []) ((enter_node n >> give tt) c)
unfolding enter_node
makes_node n c = on (ltb (length c.nodes) 1024) refl
  where
    on : (b : Bool) → ltb (length c.nodes) 1024 ≡ b → Makes c (n ∷ []) (onward (cond b (done (length c.nodes) (more c (n ∷ []))) (full (full_at n.place n.frame Nodes))) (λ y. give tt))
    on true e = made (λ h. let q : length c.nodes < 1024 = ltb-true (length c.nodes) 1024 e in omega arith)
    on false e = stopped

joined_map : {X Y : Type 0} (g : X → Y) (xs : List X) → flat_map (λ x. g x ∷ []) xs ≡ map g xs
joined_map g [] = refl
joined_map g (x ∷ xs) = ap (λ l. g x ∷ l) (joined_map g xs)

-- the hubs of S for the markers M
pub makes_hubs : (p f : ℕ) (S M : List ℕ) (c : Course) → Makes c (flat_map (λ v. map (hub_node p f v) M) S) (enter_hubs p f S M c)
makes_hubs p f S M c =
    makes_each (λ v. map (hub_node p f v) M) _
    (λ v d. subst (λ xs. Makes d xs (each (λ m. enter_node (hub_node p f v m) >> give tt) M d)) (joined_map (hub_node p f v) M)
    (makes_each (λ m. hub_node p f v m ∷ []) _ (λ m e. makes_node (hub_node p f v m) e) M d))
    S c

module _ {A X : Type 0} (g : X → List A) (w : ℕ) (h : (x : X) → length (g x) ≡ w) where
  pub length_joined : (xs : List X) → length (flat_map g xs) ≡ length xs * w
  length_joined [] = omega arith
  length_joined (x ∷ xs) =
      let e = length-append (g x) (flat_map g xs) in
      let i : length (flat_map g xs) ≡ length xs * w = length_joined xs in
      let a : length (g x) ≡ w = h x in
      let m : (1 + length xs) * w ≡ 1 * w + length xs * w = add-mul 1 (length xs) w in
      omega arith

  get_or_joined : (xs : List X) (r q : ℕ) (x : X) (d : A) → r < length xs → q < w → get_or (flat_map g xs) (r * w + q) d ≡ get_or (g (get_or xs r x)) q d
  get_or_joined [] r q x d i j = absurd (omega arith)
  get_or_joined (y ∷ xs) zero q x d i j =
      let a : length (g y) ≡ w = h y in
      ap (λ k. get_or (g y ++ flat_map g xs) k d) (let e : 0 * w + q ≡ q = omega arith in e) ∙ get_or_append_left (g y) (flat_map g xs) d q (omega arith)
  get_or_joined (y ∷ xs) (suc r) q x d i j =
      let a : length (g y) ≡ w = h y in
      let m : (1 + r) * w ≡ 1 * w + r * w = add-mul 1 r w in
      ap (λ k. get_or (g y ++ flat_map g xs) k d) (let e : suc r * w + q ≡ length (g y) + (r * w + q) = omega arith in e)
      ∙ get_or-append-add (g y) (flat_map g xs) (r * w + q) d
      ∙ get_or_joined xs r q x d (omega arith) j

-- the number of a hub is that of its node
pub hub_node_lem : (p f : ℕ) (S M : List ℕ) (nodes : List Node) → Ascending S → Ascending M → (v m : ℕ) → In v S → In m M → (none : Node) →
    get_or (nodes ++ flat_map (λ x. map (hub_node p f x) M) S) (hub_of (length nodes) S M v m) none ≡ hub_node p f v m
hub_node_lem p f S M nodes aS aM v m i j none =
    let l : below v S < length S = below_length v S aS i in
    let k : below m M < length M = below_length m M aM j in
    ap (λ x. get_or (nodes ++ flat_map (λ y. map (hub_node p f y) M) S) x none)
    (let e : length nodes + below v S * length M + below m M ≡ length nodes + (below v S * length M + below m M) = omega arith in e)
    ∙ get_or-append-add nodes (flat_map (λ y. map (hub_node p f y) M) S) (below v S * length M + below m M) none
    ∙ get_or_joined (λ y. map (hub_node p f y) M) (length M) (λ y. length-map M (hub_node p f y)) S (below v S) (below m M) 0 none l k
    ∙ get_or-map (hub_node p f (get_or S (below v S) 0)) M (below m M) 0 none k
    ∙ ap (λ x. hub_node p f x (get_or M (below m M) 0)) (get_or_below v 0 S aS i)
    ∙ ap (λ x. hub_node p f v x) (get_or_below m 0 M aM j)

pub hub_there : (S M : List ℕ) (h v m : ℕ) → Ascending S → Ascending M → In v S → In m M → hub_of h S M v m < h + length S * length M
hub_there S M h v m aS aM i j =
    let l : below v S + 1 ≤ length S = omega (arith, below_length v S aS i) in
    let k : below m M < length M = below_length m M aM j in
    let a : (below v S + 1) * length M ≤ length S * length M = mul-le-mul_right (length M) l in
    let b : (below v S + 1) * length M ≡ below v S * length M + 1 * length M = add-mul (below v S) 1 (length M) in
    omega arith

pub hubs_exact : HubsExact
hubs_exact p f S M c d aS aM q = on (enter_hubs p f S M c) (makes_hubs p f S M c) q
  where
    nodes : List Node
    nodes = flat_map (λ v. map (hub_node p f v) M) S

    on : (run : Run (Unit {0})) → Makes c nodes run → run ≡ done tt d → HubsMade p f S M c d
    on run (made b) e =
        let same : more c nodes ≡ d = cc in
        record {
          course = sym same;
          hub = λ v m i j none.
              ap (λ (x : Course). get_or x.nodes (hub_of (length c.nodes) S M v m) none) (sym same) ∙ hub_node_lem p f S M c.nodes aS aM v m i j none;
          there = λ v m i j.
              let l : length nodes ≡ length S * length M = length_joined (λ y. map (hub_node p f y) M) (length M) (λ y. length-map M (hub_node p f y)) S in
              let t = hub_there S M (length c.nodes) v m aS aM i j in
              subst (λ (x : Course). hub_of (length c.nodes) S M v m < length x.nodes) same
              (let a = length-append c.nodes nodes in omega arith);
        }
    on run stopped e = absurd (let z : ◌≡◌ {A = ℕ} 0 1 = cc in omega arith)
