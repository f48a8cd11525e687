-- The in-set and the out-set of a form, from those of its parts. Assumes nothing.
--
-- Admission fills a table of sets by these, place by place; what comes out is told by the sets of
-- the places' trees.
--   both_sets i o         an in-set and an out-set
--   row sets p            the sets of the place p in a table of sets
--   sets_from part form   the sets of a form whose parts have the sets part
--   sets_of tree          the sets of a tree
--   sets_at table p       the sets of the tree of a place of a table
--   HasSets table sets    a table of sets has those of the places of a table
use Rattle.std.specs.Prelude.{◌≡◌, ℕ, ◌<◌, Bool, List, [], length, slice_index_or}
use Rattle.expression.specs.declared.form.Form.{Form}
use Rattle.expression.specs.declared.form.Form.TheVariants.{Zero, Node, Edge, Union, Mark, Out, Disjoint, Append, Graph, If, Recursion}
use Rattle.expression.specs.declared.sets.Sets.{Sets}
use Rattle.expression.specs.Markers.{no_markers, just, both}
use Rattle.expression.specs.Forms.{Tree, tree_at, ins, outs}

abbrev pub both_sets : List Bool → List Bool → Sets
both_sets i o = record { in_set = i; out_set = o }

abbrev pub row : List Sets → ℕ → Sets
row sets p = slice_index_or sets p (both_sets [] [])

abbrev pub sets_from : (ℕ → Sets) → Form → Sets
sets_from part Zero = both_sets no_markers no_markers
sets_from part Node = both_sets (just 0) no_markers
sets_from part (Edge t e) = both_sets (just 0) (part e).out_set
sets_from part (Union e f) = both_sets (part e).in_set (both (part e).out_set (part f).out_set)
sets_from part (Mark m e) = both_sets (just m) (part e).out_set
sets_from part (Out m) = both_sets (just 0) (just m)
sets_from part (Disjoint e f) =
    both_sets (both (part e).in_set (part f).in_set) (both (part e).out_set (part f).out_set)
sets_from part (Append e f) = both_sets (part e).in_set (part f).out_set
sets_from part (Graph j) = both_sets (just 0) no_markers
sets_from part (If s t e f) = both_sets (part e).in_set (both (part e).out_set (part f).out_set)
sets_from part (Recursion b a) = both_sets (part b).in_set no_markers

abbrev pub sets_of : Tree → Sets
sets_of tree = both_sets (ins tree) (outs tree)

abbrev pub sets_at : List Form → ℕ → Sets
sets_at table p = sets_of (tree_at table p)

abbrev pub HasSets : List Form → List Sets → Type 0
HasSets table sets = (p : ℕ) → p < length table → row sets p ≡ sets_at table p
