-- Worked cases: two small cabinets, each computed by the rules. Assumes nothing.
--
--   computes               opened, it lets a run be computed
--   Name, named            the labels of the two cabinets, told apart by their numbers
--   alike_names            whether two of them are one
--   node p f m v, ..       entries of a course by their parts, in the order in which they are told
--   sizes                  the whole's node, and how many nodes, arrows, frames and comparisons a finished run left
--   cabinet_p, view_p      three nodes; arrows 0-1 North, 1-2 Loop7, 1-2 Loop8; constant Loop8; places O,0  E,v1,0  N
--                          I,v1,c0,2,1  G,0  R,3,4
--   run_p, course_p        its run, and the course that the rules give
--   cabinet_q, view_q      two nodes; arrow 0-1 North; constant Site; places G,0  G,0  E,c0,1  U,0,2
--   run_q, course_q        its run, and the course that the rules give
--   by_number_p, ..        the same runs over class numbers
--   WorkedCourses          the list of the cases
use Rattle.std.specs.Prelude.{◌≡◌, ℕ, Bool, true, List, [], ◌∷◌, length, ◌==◌}
use Rattle.expression.specs.declared.form.Form.TheVariants.{Node as FormNode, Edge, Union, Out, Graph as FormGraph, If, Recursion}
use Rattle.expression.specs.declared.term.Term.TheVariants.{Constant as Fixed, Variable}
use Rattle.expression.specs.Forms.{Tree, tree_at, tree_in, ins, outs}
use Rattle.expression.specs.Rules.{keeps, fits, sets_fit}
use Rattle.course.specs.declared.course.Node.{Node}
use Rattle.course.specs.declared.course.Frame.{Frame}
use Rattle.course.specs.declared.course.Comparison.{Comparison}
use Rattle.course.specs.declared.course.Origin.{Origin}
use Rattle.course.specs.declared.course.Origin.TheVariants.{Blank, Source, Constant}
use Rattle.course.specs.declared.course.Outcome.{Outcome}
use Rattle.course.specs.declared.course.Outcome.TheVariants.{Same, Other}
use Rattle.course.specs.Course.{Course, Run, done, full, link, enter_node, enter_arrow, enter_frame, enter_comparison, each, each_at, nodes_for}
use Rattle.walks.specs.Reach.{trues, lead}
use Rattle.course.specs.Reach.{reached}
use Rattle.course.specs.Labels.{by_class}
use Rattle.course.specs.Hubs.{slots}
use Rattle.course.specs.Sources.{Graph, graph}
use Rattle.course.specs.Forward.{forward, labelled, joint, compared, run_body, turn, recur, eval, merged}
use Rattle.laws.specs.Bounds.{Sound}
use Rattle.laws.specs.Labelling.{by_label}

unfoldable pub computes : Unit {0}
unfolding tree_at tree_in ins outs keeps fits sets_fit enter_node enter_arrow enter_frame enter_comparison each each_at nodes_for reached lead trues forward labelled joint compared slots run_body turn recur eval merged
computes = tt

pub data Name : Type 0 where
  North : Name
  Loop7 : Name
  Loop8 : Name
  Site : Name

abbrev pub named : Name → ℕ
named North = 1
named Loop7 = 7
named Loop8 = 8
named Site = 2

abbrev pub alike_names : Name → Name → Bool
alike_names x y = named x == named y

abbrev pub node : ℕ → ℕ → ℕ → ℕ → Node
node p f m v = record { place = p; frame = f; marker = m; stands = v }

abbrev pub frame : ℕ → ℕ → ℕ → Frame
frame f p k = record { parent = f; place = p; arrow = k }

abbrev pub comparison : ℕ → ℕ → Origin → Origin → Outcome → Comparison
comparison p f a b o = record { place = p; frame = f; left = a; right = b; outcome = o }

abbrev pub sizes : Run ℕ → List ℕ
sizes (done v c) = v ∷ length c.nodes ∷ length c.arrows ∷ length c.frames ∷ length c.comparisons ∷ []
sizes (full e) = []

abbrev pub cabinet_p : Graph
cabinet_p = graph 3 ((0, 1) ∷ (1, 2) ∷ (1, 2) ∷ [])

abbrev pub view_p : Tree
view_p = tree_at (Out 0 ∷ Edge (Variable 1) 0 ∷ FormNode ∷ If (Variable 1) (Fixed 0) 2 1 ∷ FormGraph 0 ∷ Recursion 3 4 ∷ []) 5

unfoldable pub run_p : Run ℕ
run_p = forward (by_label alike_names (North ∷ Loop7 ∷ Loop8 ∷ []) (Loop8 ∷ [])) cabinet_p view_p

abbrev pub course_p : Course
course_p =
    record {
      nodes =
          node 64 0 0 0 ∷ node 64 0 0 1 ∷ node 64 0 0 2 ∷
          node 5 0 0 0 ∷ node 5 0 0 1 ∷ node 5 0 0 2 ∷
          node 0 1 0 6 ∷ node 1 1 0 7 ∷
          node 0 2 0 8 ∷ node 1 2 0 9 ∷
          node 2 3 0 10 ∷ [];
      arrows =
          link 0 1 (Source 0) 64 0 ∷ link 1 2 (Source 1) 64 0 ∷ link 1 2 (Source 2) 64 0 ∷
          link 7 6 (Source 0) 1 1 ∷ link 3 7 Blank 5 0 ∷ link 6 4 Blank 5 0 ∷
          link 9 8 (Source 1) 1 2 ∷ link 4 9 Blank 5 0 ∷ link 8 5 Blank 5 0 ∷
          link 4 10 Blank 5 0 ∷ [];
      frames = frame 0 64 0 ∷ frame 0 5 0 ∷ frame 0 5 1 ∷ frame 0 5 2 ∷ [];
      comparisons =
          comparison 3 1 (Source 0) (Constant 0) Other ∷
          comparison 3 2 (Source 1) (Constant 0) Other ∷
          comparison 3 3 (Source 2) (Constant 0) Same ∷ [];
    }

abbrev pub cabinet_q : Graph
cabinet_q = graph 2 ((0, 1) ∷ [])

abbrev pub view_q : Tree
view_q = tree_at (FormGraph 0 ∷ FormGraph 0 ∷ Edge (Fixed 0) 1 ∷ Union 0 2 ∷ []) 3

unfoldable pub run_q : Run ℕ
run_q = forward (by_label alike_names (North ∷ []) (Site ∷ [])) cabinet_q view_q

abbrev pub course_q : Course
course_q =
    record {
      nodes = node 64 0 0 0 ∷ node 64 0 0 1 ∷ node 2 0 0 2 ∷ node 3 0 0 3 ∷ [];
      arrows = link 0 1 (Source 0) 64 0 ∷ link 2 0 (Constant 0) 2 0 ∷ link 3 0 Blank 3 0 ∷ link 3 2 Blank 3 0 ∷ [];
      frames = frame 0 64 0 ∷ [];
      comparisons = [];
    }

unfoldable pub by_number_p : Run ℕ
by_number_p = forward (by_class (record { arrows = 0 ∷ 1 ∷ 2 ∷ []; constants = 2 ∷ [] })) cabinet_p view_p

unfoldable pub by_number_q : Run ℕ
by_number_q = forward (by_class (record { arrows = 0 ∷ []; constants = 1 ∷ [] })) cabinet_q view_q

pub record WorkedCourses : Type 0 where
  pub sound_p : Sound cabinet_p
  pub rules_p : keeps 1 view_p ≡ true
  pub sizes_p : sizes run_p ≡ 3 ∷ 11 ∷ 10 ∷ 4 ∷ 3 ∷ []
  pub end_p : run_p ≡ done 3 course_p
  pub numbers_p : by_number_p ≡ done 3 course_p
  pub sound_q : Sound cabinet_q
  pub rules_q : keeps 1 view_q ≡ true
  pub end_q : run_q ≡ done 3 course_q
  pub numbers_q : by_number_q ≡ done 3 course_q
