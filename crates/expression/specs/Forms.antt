-- Expressions as trees, and the tree that a table of places stands for. Assumes nothing.
--
--   Tree            an expression; each node of the tree has its place first
--   ins, outs       the in-set and the out-set of an expression
--   parts_of form   the parts of a form, in their order
--   lower k form    whether the parts of the form at place k stand at lower places
--   Lower k form    the same, as a fact
--   grown           the tree of a form at a place, from the trees of its parts
--   tree_at         the tree of a place of a table; a place past the table's end is a Zero
use Rattle.std.specs.Prelude.{ℕ, zero, suc, ◌<◌, Bool, List, [], ◌∷◌, nat_lt, slice_index_or}
use Rattle.std.specs.List.{list_all}
use Rattle.expression.specs.declared.term.Term.{Term}
use Rattle.expression.specs.declared.form.Form.{Form}
use Rattle.expression.specs.declared.form.Form.TheVariants.{Zero, Node, Edge, Union, Mark, Out, Disjoint, Append, Graph, If, Recursion}
use Rattle.expression.specs.Markers.{no_markers, just, both}

pub data Tree : Type 0 where
  t_zero : ℕ → Tree
  t_node : ℕ → Tree
  t_edge : ℕ → Term → Tree → Tree
  t_union : ℕ → Tree → Tree → Tree
  t_mark : ℕ → ℕ → Tree → Tree
  t_out : ℕ → ℕ → Tree
  t_disjoint : ℕ → Tree → Tree → Tree
  t_append : ℕ → Tree → Tree → Tree
  t_graph : ℕ → ℕ → Tree
  t_if : ℕ → Term → Term → Tree → Tree → Tree
  t_recursion : ℕ → Tree → Tree → Tree

-- the markers by which an expression is entered
unfoldable pub ins : Tree → List Bool
ins (t_zero p) = no_markers
ins (t_node p) = just 0
ins (t_edge p t e) = just 0
ins (t_union p e f) = ins e
ins (t_mark p m e) = just m
ins (t_out p m) = just 0
ins (t_disjoint p e f) = both (ins e) (ins f)
ins (t_append p e f) = ins e
ins (t_graph p j) = just 0
ins (t_if p s t e f) = ins e
ins (t_recursion p b a) = ins b

-- the markers under which it leaves nodes open
unfoldable pub outs : Tree → List Bool
outs (t_zero p) = no_markers
outs (t_node p) = no_markers
outs (t_edge p t e) = outs e
outs (t_union p e f) = both (outs e) (outs f)
outs (t_mark p m e) = outs e
outs (t_out p m) = just m
outs (t_disjoint p e f) = both (outs e) (outs f)
outs (t_append p e f) = outs f
outs (t_graph p j) = no_markers
outs (t_if p s t e f) = both (outs e) (outs f)
outs (t_recursion p b a) = no_markers

abbrev pub parts_of : Form → List ℕ
parts_of Zero = []
parts_of Node = []
parts_of (Edge t e) = e ∷ []
parts_of (Union e f) = e ∷ f ∷ []
parts_of (Mark m e) = e ∷ []
parts_of (Out m) = []
parts_of (Disjoint e f) = e ∷ f ∷ []
parts_of (Append e f) = e ∷ f ∷ []
parts_of (Graph j) = []
parts_of (If s t e f) = e ∷ f ∷ []
parts_of (Recursion b a) = b ∷ a ∷ []

abbrev pub lower : ℕ → Form → Bool
lower k form = list_all (λ e. nat_lt e k) (parts_of form)

abbrev pub Lower : ℕ → Form → Type 0
Lower k Zero = Unit {0}
Lower k Node = Unit {0}
Lower k (Edge t e) = e < k
Lower k (Union e f) = (e < k) × (f < k)
Lower k (Mark m e) = e < k
Lower k (Out m) = Unit {0}
Lower k (Disjoint e f) = (e < k) × (f < k)
Lower k (Append e f) = (e < k) × (f < k)
Lower k (Graph j) = Unit {0}
Lower k (If s t e f) = (e < k) × (f < k)
Lower k (Recursion b a) = (b < k) × (a < k)

abbrev pub grown : Form → ℕ → (ℕ → Tree) → Tree
grown Zero p tree = t_zero p
grown Node p tree = t_node p
grown (Edge t e) p tree = t_edge p t (tree e)
grown (Union e f) p tree = t_union p (tree e) (tree f)
grown (Mark m e) p tree = t_mark p m (tree e)
grown (Out m) p tree = t_out p m
grown (Disjoint e f) p tree = t_disjoint p (tree e) (tree f)
grown (Append e f) p tree = t_append p (tree e) (tree f)
grown (Graph j) p tree = t_graph p j
grown (If s t e f) p tree = t_if p s t (tree e) (tree f)
grown (Recursion b a) p tree = t_recursion p (tree b) (tree a)

-- parts stand lower, so as many rounds as the place number and one are enough
unfoldable pub tree_in : ℕ → List Form → ℕ → Tree
tree_in zero places p = t_zero p
tree_in (suc k) places p = grown (slice_index_or places p Zero) p (λ q. tree_in k places q)

unfoldable pub tree_at : List Form → ℕ → Tree
tree_at places p = tree_in (suc p) places p
