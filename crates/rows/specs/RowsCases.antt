-- The rows of small cabinets, worked out from the rules. Assumes nothing.
--
--   computes     opens the definitions of the run and of the rows, so that they compute
--   rows_in      the rows of a course that a run ended with, from the whole's node for marker 0; none of a run that is full
--   row          a row from its node, its head, its origin, its place and its frame
--   parallel     a cabinet of three nodes, arrows 0-1, 1-2 and 1-2 whose labels are apart, and one constant with the
--                label of the last. Its expression follows the arrows and leaves out those with the constant's label
--   united       a cabinet of two nodes with an arrow 0-1, and one constant with a label of its own. Its expression is
--                the source, united with a node from which the constant leads to the source
--   alone        a cabinet of one node without arrows, whose expression is the source
use Rattle.std.specs.Prelude.{◌≡◌, ℕ, List, [], ◌∷◌, length, refl}
use Rattle.expression.specs.declared.form.Form.TheVariants.{Node, Edge, Union, Out, Graph, If, Recursion}
use Rattle.expression.specs.declared.term.Term.TheVariants.{Constant as Fixed, Variable}
use Rattle.expression.specs.Forms.{tree_at, tree_in, ins}
use Rattle.course.specs.declared.course.Origin.{Origin}
use Rattle.course.specs.declared.course.Origin.TheVariants.{Source, Constant}
use Rattle.course.specs.Course.{Run, done, full, enter_node, enter_arrow, enter_frame, enter_comparison, each, each_at, nodes_for}
use Rattle.walks.specs.Reach.{trues, lead}
use Rattle.course.specs.Reach.{reached}
use Rattle.course.specs.Sources.{graph}
use Rattle.course.specs.Labels.{by_class}
use Rattle.course.specs.Hubs.{slots}
use Rattle.course.specs.Forward.{forward, labelled, joint, compared, run_body, turn, recur, eval, merged}
use Rattle.rows.specs.declared.row.Row.{Row}
use Rattle.rows.specs.Rows.{rows_at, shown, rows_of}

unfoldable pub computes : Unit {0}
unfolding tree_at tree_in ins enter_node enter_arrow enter_frame enter_comparison each each_at nodes_for reached lead trues forward labelled joint compared slots run_body turn recur eval merged rows_at shown
computes = tt

abbrev pub rows_in : Run ℕ → List Row
rows_in (done root c) = rows_of c.arrows (length c.nodes) root
rows_in (full e) = []

abbrev pub row : ℕ → ℕ → Origin → ℕ → ℕ → Row
row u h o p f = record { node = u; head = h; origin = o; place = p; frame = f }

unfoldable pub parallel : Run ℕ
parallel =
    forward (by_class (record { arrows = 1 ∷ 7 ∷ 8 ∷ []; constants = 8 ∷ [] })) (graph 3 ((0, 1) ∷ (1, 2) ∷ (1, 2) ∷ []))
    (tree_at (Out 0 ∷ Edge (Variable 1) 0 ∷ Node ∷ If (Variable 1) (Fixed 0) 2 1 ∷ Graph 0 ∷ Recursion 3 4 ∷ []) 5)

unfoldable pub united : Run ℕ
united =
    forward (by_class (record { arrows = 1 ∷ []; constants = 2 ∷ [] })) (graph 2 ((0, 1) ∷ []))
    (tree_at (Graph 0 ∷ Graph 0 ∷ Edge (Fixed 0) 1 ∷ Union 0 2 ∷ []) 3)

unfoldable pub alone : Run ℕ
alone = forward (by_class (record { arrows = []; constants = [] })) (graph 1 []) (tree_at (Graph 0 ∷ []) 0)

pub parallel_rows : rows_in parallel ≡ row 3 6 (Source 0) 1 1 ∷ row 6 8 (Source 1) 1 2 ∷ []
unfolding computes parallel
parallel_rows = refl

pub united_rows : rows_in united ≡ row 0 1 (Source 0) 64 0 ∷ row 3 1 (Source 0) 64 0 ∷ row 3 0 (Constant 0) 2 0 ∷ []
unfolding computes united
united_rows = refl

pub alone_rows : rows_in alone ≡ []
unfolding computes alone
alone_rows = refl
