-- An admitted expression keeps the law. Assumes nothing.
use Rattle.std.proofs.Common.{◌≡◌, ℕ, zero, suc, ◌-◌, ◌<◌, ◌≤◌, Bool, true, false, not, ◌&&◌, ◌||◌, eqb, ltb, leb, List, [], ◌∷◌, get_or, sym, refl, ap, ◌∙◌, subst, ap₂, not-suc-le-zero, arith}
use Rattle.std.proofs.lemmas.Bool.{and_parts, leb-true, ltb-true, both_ways, not-true, eq-eqb, ne_eqb, cond-true, cond-false}
use Rattle.expression.specs.declared.term.Term.{Term}
use Rattle.expression.specs.declared.term.Term.TheVariants.{Constant, Variable}
use Rattle.expression.specs.declared.form.Form.{Form}
use Rattle.expression.specs.declared.form.Form.TheVariants.{Zero, Node, Edge, Union, Mark, Out, Disjoint, Append, Graph, If, Recursion}
use Rattle.expression.specs.declared.expression.Expression.{Expression}
use Rattle.expression.specs.Markers.{no_markers, just, equal_flags, alike, apart, within}
use Rattle.expression.specs.Forms.{Tree, t_zero, t_node, t_edge, t_union, t_mark, t_out, t_disjoint, t_append, t_graph, t_if, t_recursion, lower, Lower, grown, tree_at, ins, outs, parts_of}
use Rattle.expression.specs.Parts.{times, place_of, raised}
use Rattle.expression.specs.Rules.{term_fits, fits, sets_fit, keeps}
use Rattle.expression.specs.Admission.{fields_fit}
use Rattle.expression.specs.Law.{Apart, Within, TermIn, FieldsIn, Keeps, Drawn, PartLevels, expressed, level_of, Lawful}
use Rattle.expression.specs.Admitted.{count_of}
use Rattle.expression.proofs.Trees.{unrolls, lower_tells}
use Rattle.expression.proofs.Occurring.{here_same, place_at, occurs_above, occurs_once}
use Rattle.expression.proofs.Rising.{whole_level, part_level, part_times}
use Rattle.expression.proofs.Keeping.{first_of, second_of, only}

-- what the tests of sets say
flags_same : (a b : Bool) → equal_flags a b ≡ true → a ≡ b
flags_same true b h = sym h
flags_same false true h = absurd (both_ways false refl h)
flags_same false false h = refl

pub alike_is : (a b : List Bool) → alike a b ≡ true → a ≡ b
alike_is [] [] h = refl
alike_is [] (b ∷ bs) h = absurd (both_ways false refl h)
alike_is (a ∷ xs) [] h = absurd (both_ways false refl h)
alike_is (a ∷ xs) (b ∷ ys) h =
    let p = and_parts (equal_flags a b) (alike xs ys) h in
    ap₂ (λ (z : Bool) (zs : List Bool). z ∷ zs) (flags_same a b p.0) (alike_is xs ys p.1)

pub apart_is : (a b : List Bool) → apart a b ≡ true → Apart a b
apart_is [] b h m p q = both_ways false refl p
apart_is (a ∷ xs) [] h m p q = both_ways false refl q
apart_is (a ∷ xs) (b ∷ ys) h zero p q =
    both_ways (a && b) (not-true (a && b) (and_parts _ _ h).0) (ap₂ ◌&&◌ p q)
apart_is (a ∷ xs) (b ∷ ys) h (suc m) p q = apart_is xs ys (and_parts _ _ h).1 m p q

has_too : (a b : Bool) → (not a || b) ≡ true → a ≡ true → b ≡ true
has_too true b h p = h
has_too false b h p = absurd (both_ways false refl p)

pub within_is : (a b : List Bool) → within a b ≡ true → Within a b
within_is [] b h m p = absurd (both_ways false refl p)
within_is (a ∷ xs) [] h zero p = absurd (both_ways a (not-true a (and_parts _ _ h).0) p)
within_is (a ∷ xs) [] h (suc m) p = within_is xs [] (and_parts _ _ h).1 m p
within_is (a ∷ xs) (b ∷ ys) h zero p = has_too a b (and_parts _ _ h).0 p
within_is (a ∷ xs) (b ∷ ys) h (suc m) p = within_is xs ys (and_parts _ _ h).1 m p

term_in : (c l : ℕ) (t : Term) → term_fits c l t ≡ true → TermIn c l t
term_in c l (Constant k) h = ltb-true k c h
term_in c l (Variable j) h = let p = and_parts (leb 1 j) (leb j l) h in (leb-true 1 j p.0, leb-true j l p.1)

fields_in : (c l : ℕ) (q : Form) → fields_fit c l q ≡ true → FieldsIn c l q
fields_in c l Zero h = tt
fields_in c l Node h = tt
fields_in c l (Edge t e) h = term_in c l t h
fields_in c l (Union e f) h = tt
fields_in c l (Mark m e) h = ltb-true m 8 h
fields_in c l (Out m) h = ltb-true m 8 h
fields_in c l (Disjoint e f) h = tt
fields_in c l (Append e f) h = tt
fields_in c l (Graph j) h = leb-true j l h
fields_in c l (If s t e f) h = let p = and_parts (term_fits c l s) (term_fits c l t) h in (term_in c l s p.0, term_in c l t p.1)
fields_in c l (Recursion b a) h = tt

-- the tests over a tree say that it keeps the rules
keeps_tree : (c l : ℕ) (t : Tree) → l ≤ 4 → fits c l t ≡ true → sets_fit t ≡ true → Keeps c l t
unfolding fits sets_fit
keeps_tree c l (t_zero p) b h s = b
keeps_tree c l (t_node p) b h s = b
keeps_tree c l (t_edge p t e) b h s =
    let f = and_parts (term_fits c l t) (fits c l e) h in
    let u = and_parts (sets_fit e) (alike (ins e) (just 0)) s in
    (b, term_in c l t f.0, alike_is (ins e) (just 0) u.1, keeps_tree c l e b f.1 u.0)
keeps_tree c l (t_union p e g) b h s =
    let f = and_parts (fits c l e) (fits c l g) h in
    let u = and_parts (sets_fit e && sets_fit g) (alike (ins e) (ins g)) s in
    let v = and_parts (sets_fit e) (sets_fit g) u.0 in
    (b, alike_is (ins e) (ins g) u.1, keeps_tree c l e b f.0 v.0, keeps_tree c l g b f.1 v.1)
keeps_tree c l (t_mark p m e) b h s =
    let f = and_parts (ltb m 8) (fits c l e) h in
    let u = and_parts (sets_fit e) (alike (ins e) (just 0)) s in
    (b, ltb-true m 8 f.0, alike_is (ins e) (just 0) u.1, keeps_tree c l e b f.1 u.0)
keeps_tree c l (t_out p m) b h s = (b, ltb-true m 8 h)
keeps_tree c l (t_disjoint p e g) b h s =
    let f = and_parts (fits c l e) (fits c l g) h in
    let u = and_parts (sets_fit e && sets_fit g) (apart (ins e) (ins g)) s in
    let v = and_parts (sets_fit e) (sets_fit g) u.0 in
    (b, apart_is (ins e) (ins g) u.1, keeps_tree c l e b f.0 v.0, keeps_tree c l g b f.1 v.1)
keeps_tree c l (t_append p e g) b h s =
    let f = and_parts (fits c l e) (fits c l g) h in
    let v = and_parts (sets_fit e) (sets_fit g) s in
    (b, keeps_tree c l e b f.0 v.0, keeps_tree c l g b f.1 v.1)
keeps_tree c l (t_graph p j) b h s = (b, leb-true j l h)
keeps_tree c l (t_if p x y e g) b h s =
    let f = and_parts (term_fits c l x && term_fits c l y) (fits c l e && fits c l g) h in
    let w = and_parts (term_fits c l x) (term_fits c l y) f.0 in
    let z = and_parts (fits c l e) (fits c l g) f.1 in
    let u = and_parts (sets_fit e && sets_fit g) (alike (ins e) (ins g)) s in
    let v = and_parts (sets_fit e) (sets_fit g) u.0 in
    (b, term_in c l x w.0, term_in c l y w.1, alike_is (ins e) (ins g) u.1, keeps_tree c l e b z.0 v.0, keeps_tree c l g b z.1 v.1)
keeps_tree c l (t_recursion p e a) b h s =
    let f = and_parts (ltb l 4) (fits c (suc l) e && fits c l a) h in
    let z = and_parts (fits c (suc l) e) (fits c l a) f.1 in
    let u = and_parts (sets_fit e && sets_fit a) ((alike (ins a) (just 0) && alike (outs a) no_markers) && within (outs e) (ins e)) s in
    let v = and_parts (sets_fit e) (sets_fit a) u.0 in
    let w = and_parts (alike (ins a) (just 0) && alike (outs a) no_markers) (within (outs e) (ins e)) u.1 in
    let x = and_parts (alike (ins a) (just 0)) (alike (outs a) no_markers) w.0 in
    let k = ltb-true l 4 f.0 in (
      b,
      alike_is (ins a) (just 0) x.0,
      alike_is (outs a) no_markers x.1,
      within_is (outs e) (ins e) w.1,
      keeps_tree c (suc l) e (omega arith) z.0 v.0,
      keeps_tree c l a b z.1 v.1,
    )

-- the tree has the table's forms
module _ (ps : List Form) (r : ℕ) (T : ℕ → Tree) (at : (e : ℕ) → place_of (T e) ≡ e) (part : (e : ℕ) → e < r → Drawn ps (T e)) where
  part_lower : (e : ℕ) → e < r → place_of (T e) < r
  part_lower e l = subst (λ (p : ℕ). p < r) (sym (at e)) l

  drawn_grown : (q : Form) → get_or ps r Zero ≡ q → Lower r q → Drawn ps (grown q r T)
  drawn_grown Zero is l = is
  drawn_grown Node is l = is
  drawn_grown (Edge t e) is l = (is ∙ ap (Edge t) (sym (at e)), part_lower e l, part e l)
  drawn_grown (Union e f) is l =
      (is ∙ ap₂ Union (sym (at e)) (sym (at f)), part_lower e l.0, part_lower f l.1, part e l.0, part f l.1)
  drawn_grown (Mark m e) is l = (is ∙ ap (Mark m) (sym (at e)), part_lower e l, part e l)
  drawn_grown (Out m) is l = is
  drawn_grown (Disjoint e f) is l =
      (is ∙ ap₂ Disjoint (sym (at e)) (sym (at f)), part_lower e l.0, part_lower f l.1, part e l.0, part f l.1)
  drawn_grown (Append e f) is l =
      (is ∙ ap₂ Append (sym (at e)) (sym (at f)), part_lower e l.0, part_lower f l.1, part e l.0, part f l.1)
  drawn_grown (Graph j) is l = is
  drawn_grown (If s t e f) is l =
      (is ∙ ap₂ (If s t) (sym (at e)) (sym (at f)), part_lower e l.0, part_lower f l.1, part e l.0, part f l.1)
  drawn_grown (Recursion b a) is l =
      (is ∙ ap₂ Recursion (sym (at b)) (sym (at a)), part_lower b l.0, part_lower a l.1, part b l.0, part a l.1)

drawn_below : (ps : List Form) → ((k : ℕ) → lower k (get_or ps k Zero) ≡ true) → (k r : ℕ) → r < k → Drawn ps (tree_at ps r)
drawn_below ps low zero r h = absurd (not-suc-le-zero h)
drawn_below ps low (suc k) r h =
    subst (Drawn ps) (sym (unrolls ps low r))
    (drawn_grown ps r (tree_at ps) (place_at ps low) (λ e l. drawn_below ps low k e (omega arith)) (get_or ps r Zero) refl (lower_tells r (get_or ps r Zero) (low r)))

-- the levels of the parts, form by form
part_levels_of : (L : ℕ → ℕ) (p : ℕ) (q : Form) → ((e : ℕ) → times e (parts_of q) ≤ 1) → ((e : ℕ) → 0 < times e (parts_of q) → L e ≡ raised q e (L p)) → PartLevels L p q
part_levels_of L p Zero one h = tt
part_levels_of L p Node one h = tt
part_levels_of L p (Edge t e) one h = h e (only e)
part_levels_of L p (Union e f) one h = (h e (first_of e f), h f (second_of e f))
part_levels_of L p (Mark m e) one h = h e (only e)
part_levels_of L p (Out m) one h = tt
part_levels_of L p (Disjoint e f) one h = (h e (first_of e f), h f (second_of e f))
part_levels_of L p (Append e f) one h = (h e (first_of e f), h f (second_of e f))
part_levels_of L p (Graph j) one h = tt
part_levels_of L p (If s t e f) one h = (h e (first_of e f), h f (second_of e f))
part_levels_of L p (Recursion b a) one h =
    let other : a ≡ b → ⊥ = λ e. omega (arith, one a, here_same a a refl, here_same a b e) in (
      h b (first_of b a) ∙ cond-true (eqb b b) (suc (L p)) (L p) (eq-eqb b b refl),
      h a (second_of b a) ∙ cond-false (eqb a b) (suc (L p)) (L p) (ne_eqb a b other),
    )

pub lawful : (x : Expression) → Lawful x
unfolding keeps
lawful x =
    let ps = x.table.forms.items in
    let n = count_of x in
    let low = x.table.lower_parts in
    let t = expressed x in
    let some : 0 < n = x.some in
    let last : n - 1 < n = omega arith in
    let r = and_parts (fits x.constants 0 t) (sets_fit t && (alike (ins t) (just 0) && alike (outs t) no_markers)) x.rules in
    let s = and_parts (sets_fit t) (alike (ins t) (just 0) && alike (outs t) no_markers) r.1 in
    let w = and_parts (alike (ins t) (just 0)) (alike (outs t) no_markers) s.1 in
    record {
      once = occurs_once ps low x.once;
      no_other = λ p h. occurs_above ps low (n - 1) p (omega arith);
      root = place_at ps low (n - 1);
      drawn = drawn_below ps low n (n - 1) last;
      kept = keeps_tree x.constants 0 t (omega arith) r.0 s.0;
      enters = alike_is (ins t) (just 0) w.0;
      leaves = alike_is (outs t) no_markers w.1;
      whole_level = whole_level ps low x.once;
      part_levels = λ p h. part_levels_of (level_of x) p (get_or ps p Zero) (λ e. part_times ps low x.once e p h) (λ e m. (part_level ps low x.once e p h m).1);
      level_bound = λ p h. leb-true (level_of x p) 4 (and_parts (leb (level_of x p) 4) (fields_fit x.constants (level_of x p) (get_or ps p Zero)) (x.ranged p h)).0;
      fields = λ p h. fields_in x.constants (level_of x p) (get_or ps p Zero) (and_parts (leb (level_of x p) 4) (fields_fit x.constants (level_of x p) (get_or ps p Zero)) (x.ranged p h)).1;
    }
