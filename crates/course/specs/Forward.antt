-- The forward rules, form by form, and the run of a whole expression over a source. Assumes nothing.
--
-- An evaluation goes by a comparison of labels, an environment and a frame. Every entry that a rule makes carries the
-- rule's place and this frame. Parts come first, in the order shown, except in the forms If and Recursion. Markers go
-- upwards.
--
--   Maps             what an evaluation answers: into has for each of the eight markers its node, and 0 outside the
--                    in-set; outs are the nodes left open, each with its marker
--   maps, out        such an answer from its two parts; an out from its node and its marker
--   empty, only m v the in-map of no marker; of the marker m alone, with the node v
--   merged ms a b    the in-map a at the markers of ms, and b at the others
--   binding, unbound what a level's variables stand for, from its two parts; at a level that is not in use
--   origin_of env t  where the label of the term t comes from
--   node_of env j    the node of the graph variable of the level j
--   deeper env o v   the environment one level deeper, where the label variable has the origin o and the graph variable
--                    is the node v
--   labelled         Edge: a node, with an arrow to the node t
--   joint            Union: a node for the marker m, with blank arrows to the two parts' nodes for it
--   tie              Append, and a body's outs: a blank arrow from an out to the node for its marker, if that is in the set
--   compared         If: the comparison, written down
--   chosen           If: the first part on Same, the second on Other, alone
--   hub_step         Recursion: the hub that stands for v, for a marker of the set
--   hubs_step        Recursion: the hubs that stand for v, where v is in S
--   link_at          Recursion: a blank arrow between two in-maps' nodes for a marker of the set
--   run_body         Recursion: a new frame for the arrow with the number k, the body in it, blank arrows from the tail's
--                    hubs to the body's nodes and from the body's outs to the head's hubs
--   turn             Recursion: what an arrow does. A blank arrow of T: blank arrows from hub to hub. Another arrow of T: a
--                    run of the body, one level deeper. An arrow outside T does nothing
--   recur            Recursion, from the argument's node r on: S, the nodes that arrows reach from r, and T, the arrows
--                    with their tail in S, are fixed; then come the hubs of S, then T upwards
--   eval             the rules
--   outermost        the environment of a whole expression: graph variable 0 is the source's root
--   forward          the run: the course with the whole's node for marker 0, or the first entry that does not fit
use Rattle.std.specs.Prelude.{ℕ, ◌+◌, Bool, false, cond, List, [], ◌∷◌, ◌++◌, length, replicate, slice_index, slice_index_or, slice_set}
use Rattle.expression.specs.declared.term.Term.{Term}
use Rattle.expression.specs.declared.term.Term.TheVariants.{Constant as Fixed, Variable}
use Rattle.expression.specs.Forms.{Tree, t_zero, t_node, t_edge, t_union, t_mark, t_out, t_disjoint, t_append, t_graph, t_if, t_recursion, ins}
use Rattle.course.specs.declared.course.Arrow.{Arrow}
use Rattle.course.specs.declared.course.Outcome.{Outcome}
use Rattle.course.specs.declared.course.Outcome.TheVariants.{Same, Other}
use Rattle.course.specs.declared.course.Origin.{Origin}
use Rattle.course.specs.declared.course.Origin.TheVariants.{Blank, Constant}
use Rattle.course.specs.declared.environment.Binding.{Binding}
use Rattle.course.specs.declared.environment.Environment.{Environment}
use Rattle.course.specs.declared.environment.Out.{Out}
use Rattle.course.specs.Course.{is_blank_origin, Run, Step, onward, give, ◌>>=◌, ◌>>◌, branch, enter_node, enter_frame, enter_comparison, new_node, new_arrow, each, each_at, nodes_for}
use Rattle.course.specs.Labels.{Compare}
use Rattle.course.specs.Reach.{reached}
use Rattle.course.specs.Hubs.{hubs}
use Rattle.course.specs.Sources.{Graph}
use Rattle.course.specs.Opening.{opening}

pub record Maps : Type 0 where
  pub into : List ℕ
  pub outs : List Out

abbrev pub maps : List ℕ → List Out → Maps
maps into os = record { into = into; outs = os }

abbrev pub empty : List ℕ
empty = replicate 8 0

abbrev pub only : ℕ → ℕ → List ℕ
only m v = slice_set empty m v

unfoldable pub merged : List Bool → List ℕ → List ℕ → List ℕ
merged [] a b = []
merged (t ∷ ms) [] b = []
merged (t ∷ ms) (x ∷ a) [] = []
merged (t ∷ ms) (x ∷ a) (y ∷ b) = cond t x y ∷ merged ms a b

abbrev pub binding : Origin → ℕ → Binding
binding o v = record { origin = o; node = v }

abbrev pub unbound : Binding
unbound = binding Blank 0

abbrev pub origin_of : Environment → Term → Origin
origin_of env (Fixed c) = Constant c
origin_of env (Variable j) = (slice_index_or env.bindings j unbound).origin

abbrev pub node_of : Environment → ℕ → ℕ
node_of env j = (slice_index_or env.bindings j unbound).node

abbrev pub deeper : Environment → Origin → ℕ → Environment
deeper env o v =
    record {
      level = env.level + 1;
      bindings = slice_set env.bindings (env.level + 1) (binding o v);
    }

unfoldable pub labelled : ℕ → ℕ → Origin → ℕ → Step ℕ
labelled p f o t = new_node p f 0 >>= λ v. new_arrow v t o p f >> give v

unfoldable pub joint : ℕ → ℕ → List ℕ → List ℕ → ℕ → Step ℕ
joint p f a b m =
    new_node p f m >>= λ v.
    new_arrow v (slice_index a m) Blank p f >>
    (new_arrow v (slice_index b m) Blank p f >>
    give v)

abbrev pub tie : ℕ → ℕ → List Bool → List ℕ → Out → Step (Unit {0})
tie p f ms into o = branch (slice_index_or ms o.marker false) (new_arrow o.node (slice_index into o.marker) Blank p f) (give tt)

abbrev pub out : ℕ → ℕ → Out
out v m = record { node = v; marker = m }

unfoldable pub compared : ℕ → ℕ → Origin → Origin → Outcome → Step (Unit {0})
compared p f a b r = enter_comparison (record { place = p; frame = f; left = a; right = b; outcome = r })

abbrev pub chosen : {X : Type 0} → Outcome → Step X → Step X → Step X
chosen Same m n c = m c
chosen Other m n c = n c

abbrev pub hub_step : ℕ → ℕ → ℕ → ℕ → Bool → Step (Unit {0})
hub_step p f v m b = branch b (enter_node (record { place = p; frame = f; marker = m; stands = v }) >> give tt) (give tt)

abbrev pub hubs_step : ℕ → ℕ → List Bool → ℕ → Bool → Step (Unit {0})
hubs_step p f ms v b = branch b (each_at (hub_step p f v) 0 ms) (give tt)

abbrev pub link_at : ℕ → ℕ → List ℕ → List ℕ → ℕ → Bool → Step (Unit {0})
link_at p f tails heads m b = branch b (new_arrow (slice_index tails m) (slice_index heads m) Blank p f) (give tt)

-- the arrow with the number k has its frame, the body is run in it and tied to the hubs of the tail and of the head
unfoldable pub run_body : ℕ → ℕ → List Bool → List ℕ → List ℕ → (Environment → ℕ → Step Maps) → Environment → ℕ → Step (Unit {0})
run_body p f ms tails heads body env k =
    enter_frame p f (record { parent = f; place = p; arrow = k }) >>= λ g.
    body env g >>= λ n.
    each_at (link_at p f tails n.into) 0 ms >>
    each (tie p f ms heads) n.outs

unfoldable pub turn : ℕ → ℕ → List Bool → List Bool → ℕ → (Environment → ℕ → Step Maps) → Environment → ℕ → Arrow → Step (Unit {0})
turn p f ms s h body env k a =
    let tails = hubs s ms h a.tail in
    let heads = hubs s ms h a.head in
    branch (slice_index_or s a.tail false)
    (branch (is_blank_origin a.origin)
    (each_at (link_at p f tails heads) 0 ms)
    (run_body p f ms tails heads body (deeper env a.origin a.head) k))
    (give tt)

unfoldable pub recur : ℕ → ℕ → List Bool → (Environment → ℕ → Step Maps) → Environment → ℕ → Step (List ℕ)
recur p f ms body env r c =
    let h = length c.nodes in
    let s = reached h c.arrows r in
    (each_at (hubs_step p f ms) 0 s >>
    (each_at (turn p f ms s h body env) 0 c.arrows >>
    give (hubs s ms h r))) c

unfoldable pub eval : Compare → Tree → Environment → ℕ → Step Maps
eval cmp (t_zero p) env f = give (maps empty [])
eval cmp (t_node p) env f = new_node p f 0 >>= λ v. give (maps (only 0 v) [])
eval cmp (t_edge p t e) env f =
    eval cmp e env f >>= λ a.
    labelled p f (origin_of env t) (slice_index a.into 0) >>= λ v.
    give (maps (only 0 v) a.outs)
eval cmp (t_union p e g) env f =
    eval cmp e env f >>= λ a.
    eval cmp g env f >>= λ b.
    nodes_for (joint p f a.into b.into) 0 (ins e) >>= λ into.
    give (maps into (a.outs ++ b.outs))
eval cmp (t_mark p m e) env f =
    eval cmp e env f >>= λ a.
    give (maps (only m (slice_index a.into 0)) a.outs)
eval cmp (t_out p m) env f = new_node p f 0 >>= λ v. give (maps (only 0 v) (out v m ∷ []))
eval cmp (t_disjoint p e g) env f =
    eval cmp e env f >>= λ a.
    eval cmp g env f >>= λ b.
    give (maps (merged (ins e) a.into b.into) (a.outs ++ b.outs))
eval cmp (t_append p e g) env f =
    eval cmp e env f >>= λ a.
    eval cmp g env f >>= λ b.
    each (tie p f (ins g) b.into) a.outs >>
    give (maps a.into b.outs)
eval cmp (t_graph p j) env f = give (maps (only 0 (node_of env j)) [])
eval cmp (t_if p s t e g) env f =
    compared p f (origin_of env s) (origin_of env t) (cmp (origin_of env s) (origin_of env t)) >>
    chosen (cmp (origin_of env s) (origin_of env t)) (eval cmp e env f) (eval cmp g env f)
eval cmp (t_recursion p b a) env f =
    eval cmp a env f >>= λ m.
    recur p f (ins b) (eval cmp b) env (slice_index m.into 0) >>= λ into.
    give (maps into [])

abbrev pub outermost : Environment
outermost = record { level = 0; bindings = replicate 5 unbound }

unfoldable pub forward : Compare → Graph → Tree → Run ℕ
forward cmp g e = onward (eval cmp e outermost 0 (opening g)) (λ m. give (slice_index m.into 0))
