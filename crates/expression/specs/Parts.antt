-- The places of a table and of a tree: who is whose part, and at which level. Assumes nothing.
--
--   here p q              1 where p and q are one place, and else 0
--   times p list          how often p stands in a list
--   uses table n p        how often p is a part of the first n places of a table
--   Below r list          every place of a list is below r
--   place_of tree         the place at which a tree stands
--   occurrences p tree    how often the place p stands in a tree
--   occurs p tree         whether it stands there at all
--   raised form p l       the level of the part p of a form that stands at the level l
--   level_in p l tree     the level of the place p in a tree that stands at the level l; the level
--                         of a place that is not there is left open
use Rattle.std.specs.Prelude.{ℕ, zero, suc, ◌+◌, ◌<◌, Bool, cond, List, [], ◌∷◌, ◌==◌, nat_lt, slice_index_or}
use Rattle.expression.specs.declared.form.Form.{Form}
use Rattle.expression.specs.declared.form.Form.TheVariants.{Zero, Node, Edge, Union, Mark, Out, Disjoint, Append, Graph, If, Recursion}
use Rattle.expression.specs.Forms.{Tree, parts_of, t_zero, t_node, t_edge, t_union, t_mark, t_out, t_disjoint, t_append, t_graph, t_if, t_recursion}

abbrev pub here : ℕ → ℕ → ℕ
here p q = cond (p == q) 1 0

abbrev pub times : ℕ → List ℕ → ℕ
times p [] = 0
times p (q ∷ qs) = here p q + times p qs

abbrev pub Below : ℕ → List ℕ → Type 0
Below r [] = Unit {0}
Below r (p ∷ ps) = (p < r) × Below r ps

unfoldable pub uses : List Form → ℕ → ℕ → ℕ
uses table zero p = 0
uses table (suc k) p = uses table k p + times p (parts_of (slice_index_or table k Zero))

abbrev pub place_of : Tree → ℕ
place_of (t_zero p) = p
place_of (t_node p) = p
place_of (t_edge p t e) = p
place_of (t_union p e f) = p
place_of (t_mark p m e) = p
place_of (t_out p m) = p
place_of (t_disjoint p e f) = p
place_of (t_append p e f) = p
place_of (t_graph p j) = p
place_of (t_if p s t e f) = p
place_of (t_recursion p b a) = p

unfoldable pub occurrences : ℕ → Tree → ℕ
occurrences p (t_zero q) = here p q
occurrences p (t_node q) = here p q
occurrences p (t_edge q t e) = here p q + occurrences p e
occurrences p (t_union q e f) = here p q + (occurrences p e + occurrences p f)
occurrences p (t_mark q m e) = here p q + occurrences p e
occurrences p (t_out q m) = here p q
occurrences p (t_disjoint q e f) = here p q + (occurrences p e + occurrences p f)
occurrences p (t_append q e f) = here p q + (occurrences p e + occurrences p f)
occurrences p (t_graph q j) = here p q
occurrences p (t_if q s t e f) = here p q + (occurrences p e + occurrences p f)
occurrences p (t_recursion q b a) = here p q + (occurrences p b + occurrences p a)

abbrev pub occurs : ℕ → Tree → Bool
occurs p tree = nat_lt 0 (occurrences p tree)

-- the body of a recursion stands one level above it, and every other part at its place's level
abbrev pub raised : Form → ℕ → ℕ → ℕ
raised Zero p l = l
raised Node p l = l
raised (Edge t e) p l = l
raised (Union e f) p l = l
raised (Mark m e) p l = l
raised (Out m) p l = l
raised (Disjoint e f) p l = l
raised (Append e f) p l = l
raised (Graph j) p l = l
raised (If s t e f) p l = l
raised (Recursion b a) p l = cond (p == b) (suc l) l

-- the same, over a whole tree
unfoldable pub level_in : ℕ → ℕ → Tree → ℕ
level_in p l (t_zero q) = l
level_in p l (t_node q) = l
level_in p l (t_edge q t e) = cond (p == q) l (level_in p l e)
level_in p l (t_union q e f) = cond (p == q) l (cond (occurs p e) (level_in p l e) (level_in p l f))
level_in p l (t_mark q m e) = cond (p == q) l (level_in p l e)
level_in p l (t_out q m) = l
level_in p l (t_disjoint q e f) = cond (p == q) l (cond (occurs p e) (level_in p l e) (level_in p l f))
level_in p l (t_append q e f) = cond (p == q) l (cond (occurs p e) (level_in p l e) (level_in p l f))
level_in p l (t_graph q j) = l
level_in p l (t_if q s t e f) = cond (p == q) l (cond (occurs p e) (level_in p l e) (level_in p l f))
level_in p l (t_recursion q b a) = cond (p == q) l (cond (occurs p b) (level_in p (suc l) b) (level_in p l a))
