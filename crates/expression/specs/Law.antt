-- The law of admitted expressions: their trees keep every rule, place by place. Assumes nothing.
--
-- A table of places and its tree are told apart here: the table is what is stored, the tree of its
-- last place is the expression.
--   Has set m                the set has the marker m
--   Apart a b                no marker is in both sets
--   Within a b               every marker of a is in b
--   TermIn c l t             the term t is one of c constants, or a label variable from 1 to the level l
--   FieldsIn c l form        the terms, the variable or the marker of a form at the level l
--   Keeps c l tree           every rule, at each place of a tree that stands at the level l
--   Drawn table tree         each place of the tree has the form that the table has there, and the
--                            parts of its tree stand at the parts of that form, which are lower
--   PartLevels level p form  the parts of the form at p have their levels
--   expressed x              the tree of the expression x
--   level_of x p             the level of its place p there
--   Lawful x                 the law of the admitted expression x
use Rattle.std.specs.Prelude.{◌≡◌, ℕ, suc, ◌<◌, ◌≤◌, Bool, true, false, List, slice_index_or}
use Rattle.expression.specs.declared.term.Term.{Term}
use Rattle.expression.specs.declared.term.Term.TheVariants.{Constant, Variable}
use Rattle.expression.specs.declared.form.Form.{Form}
use Rattle.expression.specs.declared.form.Form.TheVariants.{Zero, Node, Edge, Union, Mark, Out, Disjoint, Append, Graph, If, Recursion}
use Rattle.expression.specs.declared.expression.Expression.{Expression}
use Rattle.expression.specs.Markers.{no_markers, just}
use Rattle.expression.specs.Forms.{Tree, t_zero, t_node, t_edge, t_union, t_mark, t_out, t_disjoint, t_append, t_graph, t_if, t_recursion, ins, outs}
use Rattle.expression.specs.Parts.{place_of, occurrences, level_in}
use Rattle.expression.specs.Admitted.{form_of, tree_of, count_of, whole_of}

abbrev pub Has : List Bool → ℕ → Type 0
Has set m = slice_index_or set m false ≡ true

abbrev pub Apart : List Bool → List Bool → Type 0
Apart a b = (m : ℕ) → Has a m → Has b m → ⊥

abbrev pub Within : List Bool → List Bool → Type 0
Within a b = (m : ℕ) → Has a m → Has b m

abbrev pub TermIn : ℕ → ℕ → Term → Type 0
TermIn c l (Constant k) = k < c
TermIn c l (Variable j) = (1 ≤ j) × (j ≤ l)

abbrev pub FieldsIn : ℕ → ℕ → Form → Type 0
FieldsIn c l Zero = Unit {0}
FieldsIn c l Node = Unit {0}
FieldsIn c l (Edge t e) = TermIn c l t
FieldsIn c l (Union e f) = Unit {0}
FieldsIn c l (Mark m e) = m < 8
FieldsIn c l (Out m) = m < 8
FieldsIn c l (Disjoint e f) = Unit {0}
FieldsIn c l (Append e f) = Unit {0}
FieldsIn c l (Graph j) = j ≤ l
FieldsIn c l (If s t e f) = TermIn c l s × TermIn c l t
FieldsIn c l (Recursion b a) = Unit {0}

-- levels up to 4, fields in range, and the conditions on in-sets and out-sets
abbrev pub Keeps : ℕ → ℕ → Tree → Type 0
Keeps c l (t_zero p) = l ≤ 4
Keeps c l (t_node p) = l ≤ 4
Keeps c l (t_edge p t e) = (l ≤ 4) × TermIn c l t × (ins e ≡ just 0) × Keeps c l e
Keeps c l (t_union p e f) = (l ≤ 4) × (ins e ≡ ins f) × Keeps c l e × Keeps c l f
Keeps c l (t_mark p m e) = (l ≤ 4) × (m < 8) × (ins e ≡ just 0) × Keeps c l e
Keeps c l (t_out p m) = (l ≤ 4) × (m < 8)
Keeps c l (t_disjoint p e f) = (l ≤ 4) × Apart (ins e) (ins f) × Keeps c l e × Keeps c l f
Keeps c l (t_append p e f) = (l ≤ 4) × Keeps c l e × Keeps c l f
Keeps c l (t_graph p j) = (l ≤ 4) × (j ≤ l)
Keeps c l (t_if p s t e f) = (l ≤ 4) × TermIn c l s × TermIn c l t × (ins e ≡ ins f) × Keeps c l e × Keeps c l f
Keeps c l (t_recursion p b a) =
    (l ≤ 4) × (ins a ≡ just 0) × (outs a ≡ no_markers) × Within (outs b) (ins b) × Keeps c (suc l) b × Keeps c l a

abbrev pub Drawn : List Form → Tree → Type 0
Drawn table (t_zero p) = slice_index_or table p Zero ≡ Zero
Drawn table (t_node p) = slice_index_or table p Zero ≡ Node
Drawn table (t_edge p t e) = (slice_index_or table p Zero ≡ Edge t (place_of e)) × (place_of e < p) × Drawn table e
Drawn table (t_union p e f) =
    (slice_index_or table p Zero ≡ Union (place_of e) (place_of f)) × (place_of e < p) × (place_of f < p) × Drawn table e × Drawn table f
Drawn table (t_mark p m e) = (slice_index_or table p Zero ≡ Mark m (place_of e)) × (place_of e < p) × Drawn table e
Drawn table (t_out p m) = slice_index_or table p Zero ≡ Out m
Drawn table (t_disjoint p e f) =
    (slice_index_or table p Zero ≡ Disjoint (place_of e) (place_of f)) × (place_of e < p) × (place_of f < p) × Drawn table e × Drawn table f
Drawn table (t_append p e f) =
    (slice_index_or table p Zero ≡ Append (place_of e) (place_of f)) × (place_of e < p) × (place_of f < p) × Drawn table e × Drawn table f
Drawn table (t_graph p j) = slice_index_or table p Zero ≡ Graph j
Drawn table (t_if p s t e f) =
    (slice_index_or table p Zero ≡ If s t (place_of e) (place_of f)) × (place_of e < p) × (place_of f < p) × Drawn table e × Drawn table f
Drawn table (t_recursion p b a) =
    (slice_index_or table p Zero ≡ Recursion (place_of b) (place_of a)) × (place_of b < p) × (place_of a < p) × Drawn table b × Drawn table a

abbrev pub PartLevels : (ℕ → ℕ) → ℕ → Form → Type 0
PartLevels level p Zero = Unit {0}
PartLevels level p Node = Unit {0}
PartLevels level p (Edge t e) = level e ≡ level p
PartLevels level p (Union e f) = (level e ≡ level p) × (level f ≡ level p)
PartLevels level p (Mark m e) = level e ≡ level p
PartLevels level p (Out m) = Unit {0}
PartLevels level p (Disjoint e f) = (level e ≡ level p) × (level f ≡ level p)
PartLevels level p (Append e f) = (level e ≡ level p) × (level f ≡ level p)
PartLevels level p (Graph j) = Unit {0}
PartLevels level p (If s t e f) = (level e ≡ level p) × (level f ≡ level p)
PartLevels level p (Recursion b a) = (level b ≡ suc (level p)) × (level a ≡ level p)

abbrev pub expressed : Expression → Tree
expressed x = tree_of x (whole_of x)

abbrev pub level_of : Expression → ℕ → ℕ
level_of x p = level_in p 0 (expressed x)

pub record Lawful (x : Expression) : Type 0 where
  -- each place in use stands in the tree exactly once, and no other number does
  pub once : (p : ℕ) → p < count_of x → occurrences p (expressed x) ≡ 1
  pub no_other : (p : ℕ) → count_of x ≤ p → occurrences p (expressed x) ≡ 0
  -- the tree is the table's, its root the last place
  pub root : place_of (expressed x) ≡ whole_of x
  pub drawn : Drawn x.table.forms.items (expressed x)
  -- it keeps every rule, and the whole its own
  pub kept : Keeps x.constants 0 (expressed x)
  pub enters : ins (expressed x) ≡ just 0
  pub leaves : outs (expressed x) ≡ no_markers
  -- the levels in the tree, as the table has them
  pub whole_level : level_of x (whole_of x) ≡ 0
  pub part_levels : (p : ℕ) → p < count_of x → PartLevels (level_of x) p (form_of x p)
  pub level_bound : (p : ℕ) → p < count_of x → level_of x p ≤ 4
  pub fields : (p : ℕ) → p < count_of x → FieldsIn x.constants (level_of x p) (form_of x p)
