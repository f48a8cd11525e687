-- The rule of a recursion over lists: S, the nodes that arrows reach, and T, the arrows that leave them. Assumes nothing.
--
--   members i bs       the numbers of the flags of bs that are set, counted from i on
--   Numbered           an arrow with its number
--   leaving S k as     those of the arrows as, numbered from k on, whose tail is in S
--   nodes_reached c r  S: the nodes that the arrows of the course c reach from r
--   below v xs         how many numbers of xs are below v
--   hub_of h S M v m   the number of the hub (v, m), where the hubs of S for the markers M are numbered from h on, by node
--                      upwards and for each node by marker upwards
--   hub_node p f v m   the hub (v, m): a node with the marker m that stands for v
--   enter_hubs         a hub for each v of S upwards and each m of M upwards
--   take_arrow         what an arrow of T does, from u to t. Blank: a blank arrow from hub (u, m) to hub (t, m) for each m.
--                      Otherwise: a new frame, the body in it with the arrow's origin and t as its variables, for each m a
--                      blank arrow from hub (u, m) to the body's node for m, and for each out (w, m) with m in M a blank
--                      arrow from w to hub (t, m)
--   recur_over         the rule: the hubs of S, then T upwards; marker m maps to hub (r, m)
--
--   MembersExact       members are ascending, and are exactly the numbers of the flags that are set: so are the markers of a
--                      set, upwards
--   NodesExact         S is ascending and has exactly the nodes that arrows, of any origin, reach from r
--   ArrowsExact        T is ascending and has exactly the arrows with their tail in S, each with its number
--   RecursionRule      a recursion is the run of this rule over S and T
--   HubNumbers         hubs are numbered alike by sets of flags and by the lists of their members
--   HubsExact          the hubs that are made: after them the course has these nodes more and nothing else has changed, and
--                      hub (v, m) is the node with the number hub_of, has the marker m and stands for v
--   Recursed ..        what a finished evaluation of a recursion left in the course d with the answer m: it ran the
--                      argument first, and S is what arrows of the course that this left reach from its node r. For each
--                      v of S and each marker there is the hub, which stands for v; the answer maps the marker to the hub
--                      of r and leaves nothing open
--   HubsStand          this holds of every finished evaluation of a recursion
use Rattle.std.specs.Prelude.{◌≡◌, ℕ, suc, ◌+◌, ◌*◌, ◌<◌, Bool, true, false, cond, ◌↔◌, List, [], ◌∷◌, ◌++◌, map, length, get_or, nat_lt, slice_index, slice_index_or}
use Rattle.std.specs.List.{flat_map}
use Rattle.expression.specs.Forms.{Tree, t_recursion, ins}
use Rattle.course.specs.declared.course.Arrow.{Arrow}
use Rattle.course.specs.declared.course.Node.{Node}
use Rattle.course.specs.declared.course.Origin.TheVariants.{Blank}
use Rattle.course.specs.declared.environment.Environment.{Environment}
use Rattle.course.specs.declared.environment.Out.{Out}
use Rattle.course.specs.Course.{is_blank_origin, Course, Step, done, give, ◌>>=◌, ◌>>◌, branch, enter_node, enter_frame, new_arrow, each}
use Rattle.walks.specs.Reach.{In, Reaches, among}
use Rattle.course.specs.Reach.{ends, lost, reached}
use Rattle.course.specs.Hubs.{hub, slots}
use Rattle.course.specs.Labels.{Compare}
use Rattle.course.specs.Forward.{Maps, deeper, recur, eval}
use Rattle.laws.specs.Every.{Ascending}

abbrev pub members : ℕ → List Bool → List ℕ
members i [] = []
members i (b ∷ bs) = cond b (i ∷ members (suc i) bs) (members (suc i) bs)

pub record Numbered : Type 0 where
  pub number : ℕ
  pub arrow : Arrow

abbrev pub leaving : List ℕ → ℕ → List Arrow → List Numbered
leaving S k [] = []
leaving S k (a ∷ rest) = cond (among a.tail S) (record { number = k; arrow = a } ∷ leaving S (suc k) rest) (leaving S (suc k) rest)

abbrev pub nodes_reached : Course → ℕ → List ℕ
nodes_reached c r = members 0 (reached (length c.nodes) c.arrows r)

abbrev pub below : ℕ → List ℕ → ℕ
below v [] = 0
below v (x ∷ xs) = cond (nat_lt x v) 1 0 + below v xs

abbrev pub hub_of : ℕ → List ℕ → List ℕ → ℕ → ℕ → ℕ
hub_of h S M v m = h + below v S * length M + below m M

abbrev pub hub_node : ℕ → ℕ → ℕ → ℕ → Node
hub_node p f v m = record { place = p; frame = f; marker = m; stands = v }

abbrev pub enter_hubs : ℕ → ℕ → List ℕ → List ℕ → Step (Unit {0})
enter_hubs p f S M = each (λ v. each (λ m. enter_node (hub_node p f v m) >> give tt) M) S

abbrev pub take_arrow : ℕ → ℕ → List ℕ → (ℕ → ℕ → ℕ) → (Environment → ℕ → Step Maps) → Environment → Numbered → Step (Unit {0})
take_arrow p f M number body env x =
    let u = x.arrow.tail in
    let t = x.arrow.head in
    branch (is_blank_origin x.arrow.origin)
    (each (λ m. new_arrow (number u m) (number t m) Blank p f) M)
    (enter_frame p f (record { parent = f; place = p; arrow = x.number }) >>= λ g.
    body (deeper env x.arrow.origin t) g >>= λ n.
    each (λ m. new_arrow (number u m) (slice_index n.into m) Blank p f) M >>
    each (λ (o : Out). branch (among o.marker M) (new_arrow o.node (number t o.marker) Blank p f) (give tt)) n.outs)

abbrev pub recur_over : ℕ → ℕ → List Bool → ℕ → List ℕ → List Numbered → (Environment → ℕ → Step Maps) → Environment → ℕ → Step (List ℕ)
recur_over p f ms h S T body env r =
    let M = members 0 ms in
    let number = hub_of h S M in
    enter_hubs p f S M >> (each (take_arrow p f M number body env) T >> give (slots (number r) 0 ms))

abbrev pub MembersExact : Type 0
MembersExact = (bs : List Bool) → Ascending (members 0 bs) × ((v : ℕ) → In v (members 0 bs) ↔ (slice_index_or bs v false ≡ true))

abbrev pub NodesExact : Type 0
NodesExact =
    (c : Course) (r : ℕ) →
    let S = nodes_reached c r in
    Ascending S × ((v : ℕ) → In v S ↔ ((v < length c.nodes) × Reaches (map ends c.arrows) r v))

abbrev pub ArrowsExact : Type 0
ArrowsExact =
    (S : List ℕ) (arrows : List Arrow) →
    let T = leaving S 0 arrows in
    Ascending (map (λ (x : Numbered). x.number) T) ×
    ((x : Numbered) → In x T ↔ ((x.number < length arrows) × (slice_index_or arrows x.number lost ≡ x.arrow) × In x.arrow.tail S))

abbrev pub RecursionRule : Type 0
RecursionRule =
    (p f : ℕ) (ms : List Bool) (body : Environment → ℕ → Step Maps) (env : Environment) (r : ℕ) (c : Course) →
    let S = nodes_reached c r in
    recur p f ms body env r c ≡ recur_over p f ms (length c.nodes) S (leaving S 0 c.arrows) body env r c

abbrev pub HubNumbers : Type 0
HubNumbers = (s ms : List Bool) (h v m : ℕ) → hub s ms h v m ≡ hub_of h (members 0 s) (members 0 ms) v m

pub record HubsMade (p f : ℕ) (S M : List ℕ) (c d : Course) : Type 0 where
  pub course : d ≡ record { nodes = c.nodes ++ flat_map (λ v. map (hub_node p f v) M) S; arrows = c.arrows; frames = c.frames; comparisons = c.comparisons }
  pub hub : (v m : ℕ) → In v S → In m M → (none : Node) → slice_index_or d.nodes (hub_of (length c.nodes) S M v m) none ≡ hub_node p f v m
  pub there : (v m : ℕ) → In v S → In m M → hub_of (length c.nodes) S M v m < length d.nodes

abbrev pub HubsExact : Type 0
HubsExact =
    (p f : ℕ) (S M : List ℕ) (c d : Course) → Ascending S → Ascending M → enter_hubs p f S M c ≡ done tt d → HubsMade p f S M c d

pub record Recursed (cmp : Compare) (p f : ℕ) (b a : Tree) (env : Environment) (c : Course) (m : Maps) (d : Course) : Type 0 where
  pub argument : Maps
  pub before : Course
  pub first : eval cmp a env f c ≡ done argument before
  pub hub : (v k : ℕ) →
      let S = nodes_reached before (slice_index argument.into 0) in
      let M = members 0 (ins b) in
      In v S → In k M → (none : Node) → slice_index_or d.nodes (hub_of (length before.nodes) S M v k) none ≡ hub_node p f v k
  pub into : (k : ℕ) →
      let r = get_or argument.into 0 0 in
      let M = members 0 (ins b) in
      In k M → slice_index m.into k ≡ hub_of (length before.nodes) (nodes_reached before r) M r k
  pub outs : m.outs ≡ []

abbrev pub HubsStand : Type 0
HubsStand =
    (cmp : Compare) (p f : ℕ) (b a : Tree) (env : Environment) (c : Course) (m : Maps) (d : Course) →
    eval cmp (t_recursion p b a) env f c ≡ done m d → Recursed cmp p f b a env c m d
