-- Every step of a run keeps the course within bounds, and two ways to compare that agree on labels that there are take the
-- same steps. Assumes nothing.
use Rattle.std.proofs.Common.{◌≡◌, ℕ, zero, suc, ◌+◌, ◌*◌, ◌<◌, ◌≤◌, Bool, true, false, cond, ◌&&◌, ltb, leb, ◌⊎◌, List, [], ◌∷◌, ◌++◌, map, length, get_or, set, replicate, sym, refl, ap, ◌∙◌, subst, inl, inr, arith, length-append}
use Rattle.std.specs.List.{flat_map}
use Rattle.std.proofs.lemmas.List.{get_or-set_same, get_or-set_other, length-set, length-map, length_push}
use Rattle.std.proofs.lemmas.Bool.{ltb-true, leb-true, and_parts, cases_eq}
use Rattle.expression.specs.declared.term.Term.{Term}
use Rattle.expression.specs.declared.term.Term.TheVariants.{Constant as Fixed, Variable}
use Rattle.expression.specs.Forms.{Tree, t_zero, t_node, t_edge, t_union, t_mark, t_out, t_disjoint, t_append, t_graph, t_if, t_recursion, ins}
use Rattle.expression.specs.Rules.{term_fits, fits}
use Rattle.course.specs.declared.course.Node.{Node}
use Rattle.course.specs.declared.course.Arrow.{Arrow}
use Rattle.course.specs.declared.course.Frame.{Frame}
use Rattle.course.specs.declared.course.Comparison.{Comparison}
use Rattle.course.specs.declared.course.Full.{Full}
use Rattle.course.specs.declared.course.Origin.{Origin}
use Rattle.course.specs.declared.course.Origin.TheVariants.{Blank, Source, Constant}
use Rattle.course.specs.declared.course.Outcome.{Outcome}
use Rattle.course.specs.declared.course.Outcome.TheVariants.{Same, Other}
use Rattle.course.specs.declared.environment.Binding.{Binding}
use Rattle.course.specs.declared.environment.Environment.{Environment}
use Rattle.course.specs.declared.environment.Out.{Out}
use Rattle.course.specs.Course.{is_blank_origin, Course, Run, done, full, Step, onward, give, ◌>>◌, branch, enter_node, enter_arrow, enter_frame, enter_comparison, new_node, new_arrow, link, each, each_at, nodes_for}
use Rattle.course.specs.Labels.{Compare}
use Rattle.course.specs.Hubs.{hub, hubs}
use Rattle.walks.specs.Reach.{In, stay}
use Rattle.course.specs.Reach.{lost, reached}
use Rattle.course.specs.Forward.{Maps, only, binding, unbound, origin_of, deeper, labelled, joint, tie, compared, chosen, hubs_step, link_at, run_body, turn, recur, eval}
use Rattle.laws.specs.Every.{Every, EveryFrom}
use Rattle.laws.specs.Bounds.{Known, Labelled, NodeIn, ArrowIn, InnerFrame, FrameIn, ComparisonIn, CourseIn}
use Rattle.laws.specs.Recursion.{members, hub_of, hub_node, enter_hubs}
use Rattle.laws.proofs.Everies.{every_join, every_to, every_get, every_set, every_replicate, every_joined, every_map, from_join, from_every, from_all}
use Rattle.laws.proofs.Growing.{Grows, grows, grows_same, grows_then, begins_same, begins_more, begins_get_or, below_up, nodes_up, arrow_up, arrows_up, frames_up, comparisons_up}
use Rattle.laws.proofs.InMaps.{length_ins, every_merged, every_slots}
use Rattle.laws.proofs.Members.{in_members, members_in, members_ascending}
use Rattle.laws.proofs.Recursing.{hubs_entered, hub_same}
use Rattle.laws.proofs.HubMaking.{more, Makes, made, stopped as unmade, makes_hubs, hub_there, length_joined}
use Rattle.walks.proofs.Marking.{marked_within}
use Rattle.laws.proofs.Reaching.{reached_exact, reached_within, head_reached}

module _ (s n : ℕ) where
  known : (o : Origin) → Labelled s n o → Known s n o
  known Blank h = tt
  known (Source k) h = h
  known (Constant k) h = h

  has_label : (o : Origin) → Known s n o → is_blank_origin o ≡ false → Labelled s n o
  has_label Blank h e = absurd (let z : ◌≡◌ {A = ℕ} 0 1 = cc in omega arith)
  has_label (Source k) h e = h
  has_label (Constant k) h e = h

  -- the two runs stop alike, or come alike to a course within bounds, with a fact of the answer
  pub data Ends {X : Type 0} (c : Course) (Q : X → Course → Type 0) : Run X → Run X → Type 0 where
    ended : {x : X} {d : Course} → CourseIn s n d → Grows c d → Q x d → Ends c Q (done x d) (done x d)
    stopped : {e : Full} → Ends c Q (full e) (full e)

  abbrev Any : {X : Type 0} → X → Course → Type 0
  Any x d = Unit {0}

  ends_on : {X : Type 0} (c d : Course) (Q : X → Course → Type 0) (run other : Run X) → Grows c d → Ends d Q run other → Ends c Q run other
  ends_on c d Q run other g (ended {d = e} w g' q) = ended w (grows_then c d e g g') q
  ends_on c d Q run other g stopped = stopped

  pub ends_onward : {X Y : Type 0} (c : Course) (Q : X → Course → Type 0) (R : Y → Course → Type 0) (run other : Run X) (k l : X → Step Y) → Ends c Q run other →
      ((x : X) (d : Course) → CourseIn s n d → Grows c d → Q x d → Ends d R (k x d) (l x d)) → Ends c R (onward run k) (onward other l)
  ends_onward c Q R run other k l (ended {x} {d} w g q) t = ends_on c d R (k x d) (l x d) g (t x d w g q)
  ends_onward c Q R run other k l stopped t = stopped

  pub ends_give : {X : Type 0} (c : Course) (Q : X → Course → Type 0) (x : X) → CourseIn s n c → Q x c → Ends c Q (done x c) (done x c)
  ends_give c Q x w q = ended w (grows_same c) q

  ends_branch : {X : Type 0} (b : Bool) (c : Course) (Q : X → Course → Type 0) (m m' k k' : Step X) →
      (b ≡ true → Ends c Q (m c) (m' c)) → (b ≡ false → Ends c Q (k c) (k' c)) → Ends c Q (branch b m k c) (branch b m' k' c)
  ends_branch true c Q m m' k k' h t = h refl
  ends_branch false c Q m m' k k' h t = t refl

  ends_cond : {X : Type 0} (c : Course) (Q : X → Course → Type 0) (b : Bool) (x : X) (d : Course) (e : Full) →
      (b ≡ true → CourseIn s n d × Grows c d × Q x d) → Ends c Q (cond b (done x d) (full e)) (cond b (done x d) (full e))
  ends_cond c Q true x d e h = let q = h refl in ended q.0 q.1 q.2
  ends_cond c Q false x d e h = stopped

  -- a node that is entered is there
  abbrev pub There : ℕ → Course → Type 0
  There v d = v < length d.nodes

  more_in : (c : Course) (xs : List Node) → CourseIn s n c → length (c.nodes ++ xs) ≤ 1024 →
      Every (λ (x : Node). (x.frame < length c.frames) × (x.marker < 8) × (x.stands ≤ length c.nodes)) xs → CourseIn s n (more c xs) × Grows c (more c xs)
  more_in c xs w l h =
      let g : Grows c (more c xs) = grows c (more c xs) (record { nodes = begins_more _ _; arrows = begins_same _; frames = begins_same _; comparisons = begins_same _ }) in (
        record {
          a_node = omega (arith, g.nodes, w.a_node);
          a_frame = w.a_frame;
          few_nodes = l;
          few_arrows = w.few_arrows;
          few_frames = w.few_frames;
          few_comparisons = w.few_comparisons;
          nodes = from_join (NodeIn (more c xs)) 0 c.nodes xs (nodes_up c (more c xs) g 0 c.nodes w.nodes)
              (from_every _ (NodeIn (more c xs)) (length c.nodes) (λ i x j q. record { frame = q.0; marker = q.1; stands = omega (arith, q.2) }) (0 + length c.nodes) (omega arith) xs h);
          arrows = arrows_up c (more c xs) g s n c.arrows w.arrows;
          frames = frames_up c (more c xs) g 0 c.frames w.frames;
          comparisons = comparisons_up c (more c xs) g s n c.comparisons w.comparisons;
        },
        g,
      )

  ends_node : (x : Node) (c : Course) → CourseIn s n c → x.frame < length c.frames → x.marker < 8 → x.stands ≤ length c.nodes →
      Ends c There (enter_node x c) (enter_node x c)
  unfolding enter_node
  ends_node x c w f m h =
      ends_cond c There (ltb (length c.nodes) 1024) (length c.nodes) (more c (x ∷ [])) _
      (λ e.
      let l : length c.nodes < 1024 = ltb-true (length c.nodes) 1024 e in
      let a : length (c.nodes ++ x ∷ []) ≡ length c.nodes + 1 = length_push c.nodes x in
      let q = more_in c (x ∷ []) w (omega arith) ((f, m, h), tt) in
      (q.0, q.1, omega arith))

  ends_new : (p f m : ℕ) (c : Course) → CourseIn s n c → f < length c.frames → m < 8 → Ends c There (new_node p f m c) (new_node p f m c)
  ends_new p f m c w h l = ends_node (record { place = p; frame = f; marker = m; stands = length c.nodes }) c w h l (omega arith)

  ends_arrow : (a : Arrow) (c : Course) → CourseIn s n c → ArrowIn s n c a → Ends c Any (enter_arrow a c) (enter_arrow a c)
  unfolding enter_arrow
  ends_arrow a c w h =
      ends_cond c Any (ltb (length c.arrows) 2048) tt d _
      (λ e.
      let l : length c.arrows < 2048 = ltb-true (length c.arrows) 2048 e in
      let b : length (c.arrows ++ a ∷ []) ≡ length c.arrows + 1 = length_push c.arrows a in (
        record {
          a_node = w.a_node;
          a_frame = w.a_frame;
          few_nodes = w.few_nodes;
          few_arrows = omega arith;
          few_frames = w.few_frames;
          few_comparisons = w.few_comparisons;
          nodes = nodes_up c d g 0 c.nodes w.nodes;
          arrows = every_join (ArrowIn s n d) c.arrows (a ∷ []) (arrows_up c d g s n c.arrows w.arrows) (arrow_up c d g s n a h, tt);
          frames = frames_up c d g 0 c.frames w.frames;
          comparisons = comparisons_up c d g s n c.comparisons w.comparisons;
        },
        g,
        tt,
      ))
    where
      d : Course
      d = record { nodes = c.nodes; arrows = c.arrows ++ a ∷ []; frames = c.frames; comparisons = c.comparisons }

      g : Grows c d
      g = grows c d (record { nodes = begins_same _; arrows = begins_more _ _; frames = begins_same _; comparisons = begins_same _ })

  -- a blank arrow between two nodes
  ends_blank : (p f u v : ℕ) (c : Course) → CourseIn s n c → f < length c.frames → u < length c.nodes → v < length c.nodes →
      Ends c Any (new_arrow u v Blank p f c) (new_arrow u v Blank p f c)
  ends_blank p f u v c w h i j = ends_arrow (link u v Blank p f) c w (record { tail = i; head = j; frame = h; origin = tt })

  framed : (c : Course) (i : ℕ) (x : Frame) → 0 < i → InnerFrame c i x → FrameIn c i x
  framed c zero x z h = absurd (omega arith)
  framed c (suc i) x z h = h

  ends_frame : (p f : ℕ) (x : Frame) (c : Course) → CourseIn s n c → x.parent < length c.frames → x.arrow < length c.arrows →
      is_blank_origin (get_or c.arrows x.arrow lost).origin ≡ false → Ends c (λ v d. v < length d.frames) (enter_frame p f x c) (enter_frame p f x c)
  unfolding enter_frame
  ends_frame p f x c w h i j =
      ends_cond c (λ v d'. v < length d'.frames) (ltb (length c.frames) 512) (length c.frames) d _
      (λ e.
      let l : length c.frames < 512 = ltb-true (length c.frames) 512 e in
      let b : length (c.frames ++ x ∷ []) ≡ length c.frames + 1 = length_push c.frames x in (
        record {
          a_node = w.a_node;
          a_frame = omega arith;
          few_nodes = w.few_nodes;
          few_arrows = w.few_arrows;
          few_frames = omega arith;
          few_comparisons = w.few_comparisons;
          nodes = nodes_up c d g 0 c.nodes w.nodes;
          arrows = arrows_up c d g s n c.arrows w.arrows;
          frames = from_join (FrameIn d) 0 c.frames (x ∷ []) (frames_up c d g 0 c.frames w.frames)
              (framed d (0 + length c.frames) x (omega (arith, w.a_frame)) (record { parent = omega arith; arrow = i; labelled = j }), tt);
          comparisons = comparisons_up c d g s n c.comparisons w.comparisons;
        },
        g,
        omega arith,
      ))
    where
      d : Course
      d = record { nodes = c.nodes; arrows = c.arrows; frames = c.frames ++ x ∷ []; comparisons = c.comparisons }

      g : Grows c d
      g = grows c d (record { nodes = begins_same _; arrows = begins_same _; frames = begins_more _ _; comparisons = begins_same _ })

  ends_comparison : (x : Comparison) (c : Course) → CourseIn s n c → ComparisonIn s n c x → Ends c Any (enter_comparison x c) (enter_comparison x c)
  unfolding enter_comparison
  ends_comparison x c w h =
      ends_cond c Any (ltb (length c.comparisons) 1024) tt d _
      (λ e.
      let l : length c.comparisons < 1024 = ltb-true (length c.comparisons) 1024 e in
      let b : length (c.comparisons ++ x ∷ []) ≡ length c.comparisons + 1 = length_push c.comparisons x in (
        record {
          a_node = w.a_node;
          a_frame = w.a_frame;
          few_nodes = w.few_nodes;
          few_arrows = w.few_arrows;
          few_frames = w.few_frames;
          few_comparisons = omega arith;
          nodes = nodes_up c d g 0 c.nodes w.nodes;
          arrows = arrows_up c d g s n c.arrows w.arrows;
          frames = frames_up c d g 0 c.frames w.frames;
          comparisons = every_join (ComparisonIn s n d) c.comparisons (x ∷ []) (comparisons_up c d g s n c.comparisons w.comparisons) (record { frame = h.frame; left = h.left; right = h.right }, tt);
        },
        g,
        tt,
      ))
    where
      d : Course
      d = record { nodes = c.nodes; arrows = c.arrows; frames = c.frames; comparisons = c.comparisons ++ x ∷ [] }

      g : Grows c d
      g = grows c d (record { nodes = begins_same _; arrows = begins_same _; frames = begins_same _; comparisons = begins_more _ _ })

  -- a step for each element, wherever the course has come to
  ends_each : {X : Type 0} (c : Course) (m k : X → Step (Unit {0})) (P : X → Type 0) →
      ((x : X) (d : Course) → P x → CourseIn s n d → Grows c d → Ends d Any (m x d) (k x d)) →
      (xs : List X) → Every P xs → (d : Course) → CourseIn s n d → Grows c d → Ends d Any (each m xs d) (each k xs d)
  unfolding each
  ends_each c m k P h [] ps d w g = ends_give d Any tt w tt
  ends_each c m k P h (x ∷ xs) ps d w g =
      ends_onward d Any Any (m x d) (k x d) _ _ (h x d ps.0 w g) (λ y e w' g' q. ends_each c m k P h xs ps.1 e w' (grows_then c d e g g'))

  ends_each_at : {X : Type 0} (c : Course) (m k : ℕ → X → Step (Unit {0})) (P : ℕ → X → Type 0) →
      ((i : ℕ) (x : X) (d : Course) → P i x → CourseIn s n d → Grows c d → Ends d Any (m i x d) (k i x d)) →
      (i : ℕ) (xs : List X) → EveryFrom P i xs → (d : Course) → CourseIn s n d → Grows c d → Ends d Any (each_at m i xs d) (each_at k i xs d)
  unfolding each_at
  ends_each_at c m k P h i [] ps d w g = ends_give d Any tt w tt
  ends_each_at c m k P h i (x ∷ xs) ps d w g =
      ends_onward d Any Any (m i x d) (k i x d) _ _ (h i x d ps.0 w g) (λ y e w' g' q. ends_each_at c m k P h (suc i) xs ps.1 e w' (grows_then c d e g g'))

  abbrev Nodes : List ℕ → Course → Type 0
  Nodes vs d = Every (λ v. v < length d.nodes) vs

  ends_nodes : (c : Course) (m : ℕ → Step ℕ) → ((i : ℕ) (d : Course) → i < 8 → CourseIn s n d → Grows c d → Ends d There (m i d) (m i d)) →
      (i : ℕ) (ms : List Bool) → i + length ms ≤ 8 → (d : Course) → CourseIn s n d → Grows c d → Ends d Nodes (nodes_for m i ms d) (nodes_for m i ms d)
  unfolding nodes_for
  ends_nodes c m h i [] l d w g = ends_give d Nodes [] w tt
  ends_nodes c m h i (b ∷ bs) l d w g =
      ends_onward d There Nodes _ _ _ _
      (ends_branch b d There (m i) (m i) (give 0) (give 0) (λ e. h i d (omega arith) w g) (λ e. ends_give d There 0 w w.a_node))
      (λ v d₁ w₁ g₁ q.
      ends_onward d₁ Nodes Nodes _ _ _ _ (ends_nodes c m h (suc i) bs (omega arith) d₁ w₁ (grows_then c d d₁ g g₁))
      (λ vs d₂ w₂ g₂ q₂. ends_give d₂ Nodes (v ∷ vs) w₂ (omega (arith, q, g₂.nodes), q₂)))

  -- what the variables stand for is there
  pub record EnvIn (c : Course) (env : Environment) : Type 0 where
    pub level : env.level ≤ 4
    pub size : length env.bindings ≡ 5
    pub origins : (j : ℕ) → 1 ≤ j → j ≤ env.level → Labelled s n (get_or env.bindings j unbound).origin
    pub nodes : Every (λ (b : Binding). b.node < length c.nodes) env.bindings

  pub record MapsIn (m : Maps) (c : Course) : Type 0 where
    pub into : Nodes m.into c
    pub outs : Every (λ (o : Out). o.node < length c.nodes) m.outs

  env_up : (c d : Course) (env : Environment) → Grows c d → EnvIn c env → EnvIn d env
  env_up c d env g h =
      record {
        level = h.level;
        size = h.size;
        origins = h.origins;
        nodes = every_to (λ (b : Binding). b.node < length c.nodes) (λ (b : Binding). b.node < length d.nodes) (λ b q. omega (arith, g.nodes)) env.bindings h.nodes;
      }

  maps_up : (c d : Course) (m : Maps) → Grows c d → MapsIn m c → MapsIn m d
  maps_up c d m g h =
      record {
        into = below_up c d g m.into h.into;
        outs = every_to (λ (o : Out). o.node < length c.nodes) (λ (o : Out). o.node < length d.nodes) (λ o q. omega (arith, g.nodes)) m.outs h.outs;
      }

  -- the node for a marker
  pub node_for : (vs : List ℕ) (m : ℕ) (c : Course) → CourseIn s n c → Nodes vs c → get_or vs m 0 < length c.nodes
  node_for vs m c w h = every_get (λ v. v < length c.nodes) vs 0 m h w.a_node

  only_in : (m v : ℕ) (c : Course) → CourseIn s n c → v < length c.nodes → Nodes (only m v) c
  only_in m v c w h = every_set (λ x. x < length c.nodes) (replicate 8 0) m v (every_replicate (λ x. x < length c.nodes) 8 0 w.a_node) h

  deeper_in : (c : Course) (env : Environment) (o : Origin) (v : ℕ) → EnvIn c env → env.level < 4 → Labelled s n o → v < length c.nodes → EnvIn c (deeper env o v)
  deeper_in c env o v h l q b =
      record {
        level = omega arith;
        size = length-set env.bindings (env.level + 1) (binding o v) ∙ h.size;
        origins = λ j i k. on j i k (cases_eq j (env.level + 1));
        nodes = every_set (λ (x : Binding). x.node < length c.nodes) env.bindings (env.level + 1) (binding o v) h.nodes b;
      }
    where
      on : (j : ℕ) → 1 ≤ j → j ≤ env.level + 1 → (j ≡ env.level + 1) ⊎ (j ≡ env.level + 1 → ⊥) → Labelled s n (get_or (set env.bindings (env.level + 1) (binding o v)) j unbound).origin
      on j i k (inl e) =
          subst (λ x. Labelled s n (get_or (set env.bindings (env.level + 1) (binding o v)) x unbound).origin) (sym e)
          (subst (λ (x : Binding). Labelled s n x.origin) (sym (get_or-set_same env.bindings (env.level + 1) (binding o v) unbound (omega (arith, h.size)))) q)
      on j i k (inr e) = subst (λ (x : Binding). Labelled s n x.origin) (sym (get_or-set_other env.bindings (env.level + 1) j (binding o v) unbound e)) (h.origins j i (omega (arith, e)))

  term_label : (c : Course) (env : Environment) → EnvIn c env → (t : Term) → term_fits n env.level t ≡ true → Labelled s n (origin_of env t)
  term_label c env h (Fixed k) q = ltb-true k n q
  term_label c env h (Variable j) q =
      let b = and_parts (leb 1 j) (leb j env.level) q in
      h.origins j (leb-true 1 j b.0) (leb-true j env.level b.1)

  ends_labelled : (p f : ℕ) (o : Origin) (t : ℕ) (c : Course) → CourseIn s n c → f < length c.frames → Known s n o → t < length c.nodes →
      Ends c There (labelled p f o t c) (labelled p f o t c)
  unfolding labelled
  ends_labelled p f o t c w l k h =
      ends_onward c There There _ _ _ _ (ends_new p f 0 c w l (omega arith)) λ v d w₁ g₁ q.
      ends_onward d Any There _ _ _ _
      (ends_arrow (link v t o p f) d w₁ (record { tail = q; head = omega (arith, g₁.nodes); frame = omega (arith, g₁.frames); origin = k })) λ y e w₂ g₂ q₂.
      ends_give e There v w₂ (omega (arith, q, g₂.nodes))

  ends_joint : (p f : ℕ) (a b : List ℕ) (m : ℕ) (c : Course) → CourseIn s n c → f < length c.frames → m < 8 → Nodes a c → Nodes b c →
      Ends c There (joint p f a b m c) (joint p f a b m c)
  unfolding joint
  ends_joint p f a b m c w l k ha hb =
      let ea : get_or a m 0 < length c.nodes = node_for a m c w ha in
      let eb : get_or b m 0 < length c.nodes = node_for b m c w hb in
      ends_onward c There There _ _ _ _ (ends_new p f m c w l k) λ v d w₁ g₁ q.
      ends_onward d Any There _ _ _ _ (ends_blank p f v (get_or a m 0) d w₁ (omega (arith, g₁.frames)) q (omega (arith, g₁.nodes))) λ y₂ e w₂ g₂ q₂.
      ends_onward e Any There _ _ _ _
      (ends_blank p f v (get_or b m 0) e w₂ (omega (arith, g₁.frames, g₂.frames)) (omega (arith, q, g₂.nodes)) (omega (arith, g₁.nodes, g₂.nodes))) λ y₃ e₃ w₃ g₃ q₃.
      ends_give e₃ There v w₃ (omega (arith, q, g₂.nodes, g₃.nodes))

  ends_links : (p f : ℕ) (tails heads : List ℕ) (ms : List Bool) (c : Course) → CourseIn s n c → f < length c.frames → Nodes tails c → Nodes heads c →
      Ends c Any (each_at (link_at p f tails heads) 0 ms c) (each_at (link_at p f tails heads) 0 ms c)
  ends_links p f tails heads ms c w l ht hh =
      ends_each_at c _ _ (λ i b. Unit {0})
      (λ i b d u w₁ g₁.
      ends_branch b d Any _ _ _ _
      (λ e. ends_blank p f (get_or tails i 0) (get_or heads i 0) d w₁ (omega (arith, g₁.frames)) (node_for tails i d w₁ (below_up c d g₁ tails ht)) (node_for heads i d w₁ (below_up c d g₁ heads hh)))
      (λ e. ends_give d Any tt w₁ tt))
      0 ms (from_all (λ i b. Unit {0}) (λ i b. tt) 0 ms) c w (grows_same c)

  ends_ties : (p f : ℕ) (ms : List Bool) (into : List ℕ) (outs : List Out) (c : Course) → CourseIn s n c → f < length c.frames → Nodes into c →
      Every (λ (o : Out). o.node < length c.nodes) outs → Ends c Any (each (tie p f ms into) outs c) (each (tie p f ms into) outs c)
  ends_ties p f ms into outs c w l hi ho =
      ends_each c _ _ (λ (o : Out). o.node < length c.nodes)
      (λ o d h w₁ g₁.
      ends_branch (get_or ms o.marker false) d Any _ _ _ _
      (λ e. ends_blank p f o.node (get_or into o.marker 0) d w₁ (omega (arith, g₁.frames)) (omega (arith, h, g₁.nodes)) (node_for into o.marker d w₁ (below_up c d g₁ into hi)))
      (λ e. ends_give d Any tt w₁ tt))
      outs ho c w (grows_same c)

  -- the hubs of a recursion
  module _ (c : Course) (w : CourseIn s n c) (p f : ℕ) (l : f < length c.frames) (ms : List Bool) (eight : length ms ≡ 8) (r : ℕ) where
    abbrev flags : List Bool
    flags = reached (length c.nodes) c.arrows r

    -- how many nodes there are once the hubs are made
    abbrev total : ℕ
    total = length c.nodes + length (members 0 flags) * length (members 0 ms)

    member_node : (v : ℕ) → In v (members 0 flags) → v < length c.nodes
    member_node v i = reached_within (length c.nodes) c.arrows r v (in_members v flags i)

    member_marker : (m : ℕ) → In m (members 0 ms) → m < 8
    member_marker m i = subst (λ k. m < k) eight (marked_within ms m (in_members m ms i))

    abbrev hubs_made : List Node
    hubs_made = flat_map (λ v. map (hub_node p f v) (members 0 ms)) (members 0 flags)

    ends_made : (run : Run (Unit {0})) → Makes c hubs_made run → Ends c (λ y d. total ≤ length d.nodes) run run
    ends_made run (made b) =
        let e : length (c.nodes ++ hubs_made) ≡ length c.nodes + length hubs_made = length-append c.nodes hubs_made in
        let k : length hubs_made ≡ length (members 0 flags) * length (members 0 ms) =
        length_joined (λ v. map (hub_node p f v) (members 0 ms)) (length (members 0 ms)) (λ v. length-map (members 0 ms) (hub_node p f v)) (members 0 flags) in
        let size : length c.nodes + length hubs_made ≤ 1024 = b w.few_nodes in
        let q =
        more_in c hubs_made w (omega arith)
        (every_joined _ (λ v. map (hub_node p f v) (members 0 ms)) (members 0 flags)
        (λ v i. every_map _ (hub_node p f v) (members 0 ms) (λ m j. (l, member_marker m j, omega (arith, member_node v i))))) in
        ended q.0 q.1 (omega arith)
    ends_made run unmade = stopped

    ends_hubs : Ends c (λ y d. total ≤ length d.nodes) (each_at (hubs_step p f ms) 0 flags c) (each_at (hubs_step p f ms) 0 flags c)
    ends_hubs =
        subst (λ run. Ends c (λ y d. total ≤ length d.nodes) run run) (sym (hubs_entered p f flags ms c))
        (ends_made (enter_hubs p f (members 0 flags) (members 0 ms) c) (makes_hubs p f (members 0 flags) (members 0 ms) c))

    hubs_in : (v : ℕ) (d : Course) → total ≤ length d.nodes → get_or flags v false ≡ true → Nodes (hubs flags ms (length c.nodes) v) d
    hubs_in v d t q =
        every_slots (λ x. x < length d.nodes) (hub flags ms (length c.nodes) v) (omega (arith, w.a_node)) 0 ms
        (λ m e.
        subst (λ x. x < length d.nodes) (sym (hub_same flags ms (length c.nodes) v (0 + m)))
        (let k = hub_there (members 0 flags) (members 0 ms) (length c.nodes) v m (members_ascending 0 flags) (members_ascending 0 ms) (members_in v flags q) (members_in m ms e) in
        subst (λ j. hub_of (length c.nodes) (members 0 flags) (members 0 ms) v j < length d.nodes) (let z : m ≡ 0 + m = omega arith in z) (omega arith)))

    -- what is known of an arrow of the course, with its number
    pub record Taken (k : ℕ) (a : Arrow) : Type 0 where
      pub number : k < length c.arrows
      pub is : get_or c.arrows k lost ≡ a
      pub bounds : ArrowIn s n c a
      pub inside : In a c.arrows

    taken_all : (i : ℕ) (xs : List Arrow) → ((k : ℕ) → k < length xs → get_or c.arrows (i + k) lost ≡ get_or xs k lost) → i + length xs ≤ length c.arrows →
        Every (ArrowIn s n c) xs → ((a : Arrow) → In a xs → In a c.arrows) → EveryFrom Taken i xs
    taken_all i [] h b q z = tt
    taken_all i (a ∷ xs) h b q z = (
      record { number = omega arith; is = ap (λ k. get_or c.arrows k lost) (let e : i ≡ i + 0 = omega arith in e) ∙ h 0 (omega arith); bounds = q.0; inside = z a (inl refl) },
      taken_all (suc i) xs (λ k j. ap (λ x. get_or c.arrows x lost) (let e : suc i + k ≡ i + suc k = omega arith in e) ∙ h (suc k) (omega arith)) (omega arith) q.1 (λ x j. z x (inr j)),
    )

    all_taken : EveryFrom Taken 0 c.arrows
    all_taken = taken_all 0 c.arrows (λ k j. ap (λ x. get_or c.arrows x lost) (let e : 0 + k ≡ k = omega arith in e)) (omega arith) w.arrows (λ a i. i)

    module _ (env : Environment) (inner : EnvIn c env) (deep : env.level < 4) (m m' : Environment → ℕ → Step Maps)
        (body : (e : Environment) (g : ℕ) (d : Course) → e.level ≡ env.level + 1 → CourseIn s n d → EnvIn d e → g < length d.frames → Ends d MapsIn (m e g d) (m' e g d)) where
      ends_body : (k : ℕ) (a : Arrow) (d : Course) → Taken k a → CourseIn s n d → Grows c d → total ≤ length d.nodes → is_blank_origin a.origin ≡ false →
          (tails heads : List ℕ) → Nodes tails d → Nodes heads d →
          Ends d Any (run_body p f ms tails heads m (deeper env a.origin a.head) k d) (run_body p f ms tails heads m' (deeper env a.origin a.head) k d)
      unfolding run_body
      ends_body k a d x w₀ g₀ t b tails heads ht hh =
          let there : get_or d.arrows k lost ≡ a = begins_get_or c.arrows d.arrows k lost g₀.extends.arrows x.number ∙ x.is in
          ends_onward d (λ v e. v < length e.frames) Any _ _ _ _
          (ends_frame p f (record { parent = f; place = p; arrow = k }) d w₀ (omega (arith, g₀.frames)) (omega (arith, g₀.arrows, x.number))
          (ap (λ (y : Arrow). is_blank_origin y.origin) there ∙ b)) λ g d₁ w₁ g₁ q₁.
          ends_onward d₁ MapsIn Any _ _ _ _
          (body (deeper env a.origin a.head) g d₁ refl w₁
          (deeper_in d₁ env a.origin a.head (env_up c d₁ env (grows_then c d d₁ g₀ g₁) inner) deep (has_label a.origin x.bounds.origin b)
          (omega (arith, g₀.nodes, g₁.nodes, x.bounds.head))) q₁) λ a' d₂ w₂ g₂ q₂.
          let g₁₂ : Grows d d₂ = grows_then d d₁ d₂ g₁ g₂ in
          ends_onward d₂ Any Any _ _ _ _
          (ends_links p f tails a'.into ms d₂ w₂ (omega (arith, g₀.frames, g₁₂.frames)) (below_up d d₂ g₁₂ tails ht) q₂.into) λ y d₃ w₃ g₃ q₃.
          ends_ties p f ms heads a'.outs d₃ w₃ (omega (arith, g₀.frames, g₁₂.frames, g₃.frames)) (below_up d d₃ (grows_then d d₂ d₃ g₁₂ g₃) heads hh)
          (maps_up d₂ d₃ a' g₃ q₂).outs

      ends_turn : (k : ℕ) (a : Arrow) (d : Course) → Taken k a → CourseIn s n d → Grows c d → total ≤ length d.nodes →
          Ends d Any (turn p f ms flags (length c.nodes) m env k a d) (turn p f ms flags (length c.nodes) m' env k a d)
      unfolding turn
      ends_turn k a d x w₀ g₀ t =
          ends_branch (get_or flags a.tail false) d Any _ _ _ _
          (λ q.
          let tails = hubs_in a.tail d t q in
          let heads = hubs_in a.head d t (head_reached (length c.nodes) c.arrows r a x.inside x.bounds.head q) in
          ends_branch (is_blank_origin a.origin) d Any _ _ _ _
          (λ b. ends_links p f _ _ ms d w₀ (omega (arith, g₀.frames)) tails heads)
          (λ b. ends_body k a d x w₀ g₀ t b _ _ tails heads))
          (λ q. ends_give d Any tt w₀ tt)

      ends_recur : r < length c.nodes → Ends c Nodes (recur p f ms m env r c) (recur p f ms m' env r c)
      unfolding recur
      ends_recur h =
          ends_onward c (λ y d. total ≤ length d.nodes) Nodes _ _ _ _ ends_hubs λ y d w₁ g₁ t.
          ends_onward d Any Nodes _ _ _ _
          (ends_each_at d _ _ Taken (λ k a e x w₂ g₂. ends_turn k a e x w₂ (grows_then c d e g₁ g₂) (omega (arith, t, g₂.nodes))) 0 c.arrows all_taken d w₁ (grows_same d))
          λ y₂ e w₃ g₃ q₃.
          ends_give e Nodes (hubs flags ms (length c.nodes) r) w₃
          (hubs_in r e (omega (arith, t, g₃.nodes)) ((reached_exact (length c.nodes) c.arrows r r h).1 stay))

  -- the rules, under two ways to compare that agree on labels that there are
  module _ (first second : Compare) (agree : (a b : Origin) → Labelled s n a → Labelled s n b → first a b ≡ second a b) where
    ends_chosen : {X : Type 0} (o : Outcome) (c : Course) (Q : X → Course → Type 0) (m m' k k' : Step X) → Ends c Q (m c) (m' c) → Ends c Q (k c) (k' c) →
        Ends c Q (chosen o m k c) (chosen o m' k' c)
    ends_chosen Same c Q m m' k k' h t = h
    ends_chosen Other c Q m m' k k' h t = t

    ends_if : {X : Type 0} (p f : ℕ) (a b : Origin) (c : Course) (Q : X → Course → Type 0) (m m' k k' : Step X) → CourseIn s n c → f < length c.frames →
        Labelled s n a → Labelled s n b →
        ((d : Course) → CourseIn s n d → Grows c d → Ends d Q (m d) (m' d)) → ((d : Course) → CourseIn s n d → Grows c d → Ends d Q (k d) (k' d)) →
        Ends c Q ((compared p f a b (first a b) >> chosen (first a b) m k) c) ((compared p f a b (second a b) >> chosen (second a b) m' k') c)
    unfolding compared
    ends_if {X} p f a b c Q m m' k k' w l ha hb hm hk =
        subst (λ (o : Outcome). Ends c Q ((compared p f a b (first a b) >> chosen (first a b) m k) c) ((compared p f a b o >> chosen o m' k') c)) (agree a b ha hb)
        (ends_onward c Any Q _ _ _ _ (ends_comparison _ c w (record { frame = l; left = ha; right = hb }))
        (λ y d w₁ g₁ q. ends_chosen (first a b) d Q m m' k k' (hm d w₁ g₁) (hk d w₁ g₁)))

    pub ends_eval : (e : Tree) (env : Environment) (f : ℕ) (c : Course) → fits n env.level e ≡ true → CourseIn s n c → EnvIn c env → f < length c.frames →
        Ends c MapsIn (eval first e env f c) (eval second e env f c)
    unfolding eval fits
    ends_eval (t_zero p) env f c q w v l =
        ends_give c MapsIn _ w (record { into = every_replicate (λ x. x < length c.nodes) 8 0 w.a_node; outs = tt })
    ends_eval (t_node p) env f c q w v l =
        ends_onward c There MapsIn _ _ _ _ (ends_new p f 0 c w l (omega arith)) λ x d w₁ g₁ q₁.
        ends_give d MapsIn _ w₁ (record { into = only_in 0 x d w₁ q₁; outs = tt })
    ends_eval (t_edge p t e) env f c q w v l =
        let b = and_parts (term_fits n env.level t) (fits n env.level e) q in
        ends_onward c MapsIn MapsIn _ _ _ _ (ends_eval e env f c b.1 w v l) λ a d w₁ g₁ q₁.
        ends_onward d There MapsIn _ _ _ _
        (ends_labelled p f (origin_of env t) (get_or a.into 0 0) d w₁ (omega (arith, g₁.frames)) (known (origin_of env t) (term_label c env v t b.0)) (node_for a.into 0 d w₁ q₁.into))
        λ x d₂ w₂ g₂ q₂.
        ends_give d₂ MapsIn _ w₂ (record { into = only_in 0 x d₂ w₂ q₂; outs = (maps_up d d₂ a g₂ q₁).outs })
    ends_eval (t_union p e g) env f c q w v l =
        let b = and_parts (fits n env.level e) (fits n env.level g) q in
        ends_onward c MapsIn MapsIn _ _ _ _ (ends_eval e env f c b.0 w v l) λ a d w₁ g₁ q₁.
        ends_onward d MapsIn MapsIn _ _ _ _ (ends_eval g env f d b.1 w₁ (env_up c d env g₁ v) (omega (arith, g₁.frames))) λ a' d₂ w₂ g₂ q₂.
        let q₁₂ : MapsIn a d₂ = maps_up d d₂ a g₂ q₁ in
        ends_onward d₂ Nodes MapsIn _ _ _ _
        (ends_nodes d₂ (joint p f a.into a'.into)
        (λ i d₃ h w₃ g₃.
        ends_joint p f a.into a'.into i d₃ w₃ (omega (arith, g₁.frames, g₂.frames, g₃.frames)) h (below_up d₂ d₃ g₃ a.into q₁₂.into) (below_up d₂ d₃ g₃ a'.into q₂.into))
        0 (ins e) (omega (arith, length_ins e)) d₂ w₂ (grows_same d₂)) λ into d₃ w₃ g₃ q₃.
        ends_give d₃ MapsIn _ w₃
        (record { into = q₃; outs = every_join (λ (o : Out). o.node < length d₃.nodes) a.outs a'.outs (maps_up d₂ d₃ a g₃ q₁₂).outs (maps_up d₂ d₃ a' g₃ q₂).outs })
    ends_eval (t_mark p m e) env f c q w v l =
        ends_onward c MapsIn MapsIn _ _ _ _ (ends_eval e env f c (and_parts (ltb m 8) (fits n env.level e) q).1 w v l) λ a d w₁ g₁ q₁.
        ends_give d MapsIn _ w₁ (record { into = only_in m _ d w₁ (node_for a.into 0 d w₁ q₁.into); outs = q₁.outs })
    ends_eval (t_out p m) env f c q w v l =
        ends_onward c There MapsIn _ _ _ _ (ends_new p f 0 c w l (omega arith)) λ x d w₁ g₁ q₁.
        ends_give d MapsIn _ w₁ (record { into = only_in 0 x d w₁ q₁; outs = (q₁, tt) })
    ends_eval (t_disjoint p e g) env f c q w v l =
        let b = and_parts (fits n env.level e) (fits n env.level g) q in
        ends_onward c MapsIn MapsIn _ _ _ _ (ends_eval e env f c b.0 w v l) λ a d w₁ g₁ q₁.
        ends_onward d MapsIn MapsIn _ _ _ _ (ends_eval g env f d b.1 w₁ (env_up c d env g₁ v) (omega (arith, g₁.frames))) λ a' d₂ w₂ g₂ q₂.
        let q₁₂ : MapsIn a d₂ = maps_up d d₂ a g₂ q₁ in
        ends_give d₂ MapsIn _ w₂
        (record {
          into = every_merged (λ x. x < length d₂.nodes) (ins e) a.into a'.into q₁₂.into q₂.into;
          outs = every_join (λ (o : Out). o.node < length d₂.nodes) a.outs a'.outs q₁₂.outs q₂.outs;
        })
    ends_eval (t_append p e g) env f c q w v l =
        let b = and_parts (fits n env.level e) (fits n env.level g) q in
        ends_onward c MapsIn MapsIn _ _ _ _ (ends_eval e env f c b.0 w v l) λ a d w₁ g₁ q₁.
        ends_onward d MapsIn MapsIn _ _ _ _ (ends_eval g env f d b.1 w₁ (env_up c d env g₁ v) (omega (arith, g₁.frames))) λ a' d₂ w₂ g₂ q₂.
        let q₁₂ : MapsIn a d₂ = maps_up d d₂ a g₂ q₁ in
        ends_onward d₂ Any MapsIn _ _ _ _ (ends_ties p f (ins g) a'.into a.outs d₂ w₂ (omega (arith, g₁.frames, g₂.frames)) q₂.into q₁₂.outs) λ y d₃ w₃ g₃ q₃.
        ends_give d₃ MapsIn _ w₃ (record { into = (maps_up d₂ d₃ a g₃ q₁₂).into; outs = (maps_up d₂ d₃ a' g₃ q₂).outs })
    ends_eval (t_graph p j) env f c q w v l =
        ends_give c MapsIn _ w (record { into = only_in 0 _ c w (every_get (λ (b : Binding). b.node < length c.nodes) env.bindings unbound j v.nodes w.a_node); outs = tt })
    ends_eval (t_if p t t' e g) env f c q w v l =
        let b = and_parts (term_fits n env.level t && term_fits n env.level t') (fits n env.level e && fits n env.level g) q in
        let bt = and_parts (term_fits n env.level t) (term_fits n env.level t') b.0 in
        let be = and_parts (fits n env.level e) (fits n env.level g) b.1 in
        ends_if p f (origin_of env t) (origin_of env t') c MapsIn _ _ _ _ w l (term_label c env v t bt.0) (term_label c env v t' bt.1)
        (λ d w₁ g₁. ends_eval e env f d be.0 w₁ (env_up c d env g₁ v) (omega (arith, g₁.frames)))
        (λ d w₁ g₁. ends_eval g env f d be.1 w₁ (env_up c d env g₁ v) (omega (arith, g₁.frames)))
    ends_eval (t_recursion p b a) env f c q w v l =
        let z = and_parts (ltb env.level 4) (fits n (suc env.level) b && fits n env.level a) q in
        let parts = and_parts (fits n (suc env.level) b) (fits n env.level a) z.1 in
        ends_onward c MapsIn MapsIn _ _ _ _ (ends_eval a env f c parts.1 w v l) λ m d w₁ g₁ q₁.
        ends_onward d Nodes MapsIn _ _ _ _
        (ends_recur d w₁ p f (omega (arith, g₁.frames)) (ins b) (length_ins b) (get_or m.into 0 0) env (env_up c d env g₁ v) (ltb-true env.level 4 z.0) (eval first b) (eval second b)
        (λ e g d₂ h w₂ v₂ l₂. ends_eval b e g d₂ (subst (λ k. fits n k b ≡ true) (let z' : suc env.level ≡ e.level = omega arith in z') parts.0) w₂ v₂ l₂)
        (node_for m.into 0 d w₁ q₁.into)) λ into d₂ w₂ g₂ q₂.
        ends_give d₂ MapsIn _ w₂ (record { into = q₂; outs = tt })
