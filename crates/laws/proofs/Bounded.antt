-- A finished run leaves a course within bounds, and ways to compare that agree on labels that there are run alike.
-- Assumes nothing.
use Rattle.std.proofs.Common.{◌≡◌, ℕ, zero, suc, ◌+◌, ◌<◌, ◌≤◌, true, ◌&&◌, ltb, List, [], ◌∷◌, length, get_or, sym, refl, ap, subst, arith}
use Rattle.std.proofs.lemmas.Bool.{ltb-true, and_parts}
use Rattle.expression.specs.Forms.{Tree, ins, outs}
use Rattle.expression.specs.Markers.{alike, just, no_markers}
use Rattle.expression.specs.Rules.{keeps, fits, sets_fit}
use Rattle.course.specs.declared.course.Origin.{Origin}
use Rattle.course.specs.Course.{Course, Run, done}
use Rattle.course.specs.Ends.{joins, inside}
use Rattle.course.specs.Labels.{Compare}
use Rattle.course.specs.Sources.{Graph}
use Rattle.course.specs.Opening.{source_nodes, source_arrows, opening}
use Rattle.course.specs.declared.environment.Binding.{Binding}
use Rattle.course.specs.Forward.{unbound, outermost, forward}
use Rattle.laws.specs.Every.{Every, EveryFrom}
use Rattle.laws.specs.Bounds.{Labelled, NodeIn, ArrowIn, CourseIn, Sound, Bounded, Bounds}
use Rattle.laws.proofs.Everies.{every_replicate}
use Rattle.laws.proofs.Bounding.{Ends, ended, stopped, EnvIn, MapsIn, There, ends_onward, ends_give, ends_eval, node_for}

length_sources : (i n : ℕ) → length (source_nodes i n) ≡ n
length_sources i zero = refl
length_sources i (suc n) = ap suc (length_sources (suc i) n)

length_arrows : (k : ℕ) (xs : List (ℕ × ℕ)) → length (source_arrows k xs) ≡ length xs
length_arrows k [] = refl
length_arrows k (a ∷ xs) = ap suc (length_arrows (suc k) xs)

-- source nodes stand for themselves
sources_in : (c : Course) → 0 < length c.frames → (i n : ℕ) → EveryFrom (NodeIn c) i (source_nodes i n)
sources_in c h i zero = tt
sources_in c h i (suc n) = (record { frame = h; marker = omega arith; stands = omega arith }, sources_in c h (suc i) n)

arrows_in : (s n : ℕ) (c : Course) → 0 < length c.frames → (k : ℕ) (xs : List (ℕ × ℕ)) → k + length xs ≤ s → inside (length c.nodes) xs ≡ true →
    Every (ArrowIn s n c) (source_arrows k xs)
arrows_in s n c h k [] l q = tt
arrows_in s n c h k (a ∷ xs) l q =
    let z = and_parts (joins (length c.nodes) a) (inside (length c.nodes) xs) q in
    let e = and_parts (ltb a.0 (length c.nodes)) (ltb a.1 (length c.nodes)) z.0 in (
      record { tail = ltb-true a.0 (length c.nodes) e.0; head = ltb-true a.1 (length c.nodes) e.1; frame = h; origin = omega arith },
      arrows_in s n c h (suc k) xs (omega arith) z.1,
    )

opening_in : (g : Graph) (n : ℕ) → Sound g → CourseIn (length g.arrows) n (opening g)
opening_in g n h =
    let e : length (source_nodes 0 g.nodes) ≡ g.nodes = length_sources 0 g.nodes in
    let a : length (source_arrows 0 g.arrows) ≡ length g.arrows = length_arrows 0 g.arrows in
    record {
      a_node = omega (arith, h.some);
      a_frame = omega arith;
      few_nodes = omega (arith, h.few_nodes);
      few_arrows = omega (arith, h.few_arrows);
      few_frames = omega arith;
      few_comparisons = omega arith;
      nodes = sources_in (opening g) (omega arith) 0 g.nodes;
      arrows = arrows_in (length g.arrows) n (opening g) (omega arith) 0 g.arrows (omega arith) (subst (λ k. inside k g.arrows ≡ true) (sym e) h.ends);
      frames = (refl, tt);
      comparisons = tt;
    }

outermost_in : (s n : ℕ) (c : Course) → CourseIn s n c → EnvIn s n c outermost
outermost_in s n c w =
    record {
      level = omega arith;
      size = refl;
      origins = λ j h i. absurd (omega arith);
      nodes = every_replicate (λ (b : Binding). b.node < length c.nodes) 5 unbound w.a_node;
    }

-- the rules on levels are among the rules
keeps_fits : (n : ℕ) (e : Tree) → keeps n e ≡ true → fits n 0 e ≡ true
unfolding keeps
keeps_fits n e h = (and_parts (fits n 0 e) (sets_fit e && (alike (ins e) (just 0) && alike (outs e) no_markers)) h).0

module _ (first second : Compare) (g : Graph) (n : ℕ) (e : Tree) (sound : Sound g) (rules : keeps n e ≡ true)
    (agree : (a b : Origin) → Labelled (length g.arrows) n a → Labelled (length g.arrows) n b → first a b ≡ second a b) where
  pub ends_forward : Ends (length g.arrows) n (opening g) (There (length g.arrows) n) (forward first g e) (forward second g e)
  unfolding forward
  ends_forward =
      ends_onward (length g.arrows) n (opening g) (MapsIn (length g.arrows) n) (There (length g.arrows) n) _ _ _ _
      (ends_eval (length g.arrows) n first second agree e outermost 0 (opening g) (keeps_fits n e rules) (opening_in g n sound)
      (outermost_in (length g.arrows) n (opening g) (opening_in g n sound)) (omega arith)) λ m d w h q.
      ends_give (length g.arrows) n d (There (length g.arrows) n) (get_or m.into 0 0) w (node_for (length g.arrows) n m.into 0 d w q.into)

  ends_alike : (c : Course) (run other : Run ℕ) → Ends (length g.arrows) n c (There (length g.arrows) n) run other → run ≡ other
  ends_alike c run other (ended w h q) = refl
  ends_alike c run other stopped = refl

  -- the two runs are one
  pub run_alike : forward first g e ≡ forward second g e
  run_alike = ends_alike (opening g) (forward first g e) (forward second g e) ends_forward

  pub bounded : (v : ℕ) (c : Course) → forward first g e ≡ done v c → Bounded g n v c
  bounded v c h = on (forward first g e) (forward second g e) ends_forward h
    where
      on : (run other : Run ℕ) → Ends (length g.arrows) n (opening g) (There (length g.arrows) n) run other → run ≡ done v c → Bounded g n v c
      on run other (ended {x} {d} w q t) z =
          let same : d ≡ c = cc in
          let answer : x ≡ v = cc in
          subst (λ (y : Course). Bounded g n v y) same (subst (λ y. Bounded g n y d) answer (record { course = w; whole = t }))
      on run other stopped z = absurd (let y : ◌≡◌ {A = ℕ} 0 1 = cc in omega arith)

pub bounds : Bounds
bounds cmp g n e v c sound rules h = bounded cmp cmp g n e sound rules (λ a b x y. refl) v c h
