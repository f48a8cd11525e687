-- The rules that an expression keeps, as tests over its tree. Assumes nothing.
--
--   term_fits n l t    the term t is one of n constants, or a label variable from 1 to the level l
--   fits n l e         the levels, variables, constants and markers of e, which stands at the level l
--   sets_fit e         the conditions on in-sets and out-sets, at each place of e
--   keeps n e          all of these of a whole expression, which has the level 0, is entered by
--                      marker 0 alone and leaves nothing open
use Rattle.std.specs.Prelude.{ℕ, suc, Bool, true, ◌&&◌, nat_le, nat_lt}
use Rattle.expression.specs.declared.term.Term.{Term}
use Rattle.expression.specs.declared.term.Term.TheVariants.{Constant, Variable}
use Rattle.expression.specs.Markers.{no_markers, just, alike, apart, within}
use Rattle.expression.specs.Forms.{Tree, t_zero, t_node, t_edge, t_union, t_mark, t_out, t_disjoint, t_append, t_graph, t_if, t_recursion, ins, outs}

abbrev pub term_fits : ℕ → ℕ → Term → Bool
term_fits n l (Constant c) = nat_lt c n
term_fits n l (Variable j) = nat_le 1 j && nat_le j l

-- the body of a recursion stands one level deeper, and no level is above 4
unfoldable pub fits : ℕ → ℕ → Tree → Bool
fits n l (t_zero p) = true
fits n l (t_node p) = true
fits n l (t_edge p t e) = term_fits n l t && fits n l e
fits n l (t_union p e f) = fits n l e && fits n l f
fits n l (t_mark p m e) = nat_lt m 8 && fits n l e
fits n l (t_out p m) = nat_lt m 8
fits n l (t_disjoint p e f) = fits n l e && fits n l f
fits n l (t_append p e f) = fits n l e && fits n l f
fits n l (t_graph p j) = nat_le j l
fits n l (t_if p s t e f) = (term_fits n l s && term_fits n l t) && (fits n l e && fits n l f)
fits n l (t_recursion p b a) = nat_lt l 4 && (fits n (suc l) b && fits n l a)

unfoldable pub sets_fit : Tree → Bool
sets_fit (t_zero p) = true
sets_fit (t_node p) = true
sets_fit (t_edge p t e) = sets_fit e && alike (ins e) (just 0)
sets_fit (t_union p e f) = (sets_fit e && sets_fit f) && alike (ins e) (ins f)
sets_fit (t_mark p m e) = sets_fit e && alike (ins e) (just 0)
sets_fit (t_out p m) = true
sets_fit (t_disjoint p e f) = (sets_fit e && sets_fit f) && apart (ins e) (ins f)
sets_fit (t_append p e f) = sets_fit e && sets_fit f
sets_fit (t_graph p j) = true
sets_fit (t_if p s t e f) = (sets_fit e && sets_fit f) && alike (ins e) (ins f)
sets_fit (t_recursion p b a) =
    (sets_fit b && sets_fit a) && ((alike (ins a) (just 0) && alike (outs a) no_markers) && within (outs b) (ins b))

unfoldable pub keeps : ℕ → Tree → Bool
keeps n e = fits n 0 e && (sets_fit e && (alike (ins e) (just 0) && alike (outs e) no_markers))
