-- The hubs of a recursion. Assumes nothing.
--
-- A set of nodes is a list of flags, one for each node. The hubs of a set s of nodes for a set ms of markers are numbered
-- from h on, by node upwards and for each node by marker upwards.
--   hub s ms h v m  the number of the hub of the node v for the marker m
--   slots g i ms    for each marker of a list of flags, counted from i on, its g where the flag is set, and else 0
--   hubs s ms h v   the hubs of the node v as an in-map
use Rattle.std.specs.Prelude.{ℕ, suc, ◌+◌, ◌*◌, Bool, cond, List, [], ◌∷◌, take}
use Rattle.walks.specs.Reach.{trues}

abbrev pub hub : List Bool → List Bool → ℕ → ℕ → ℕ → ℕ
hub s ms h v m = h + trues (take v s) * trues ms + trues (take m ms)

unfoldable pub slots : (ℕ → ℕ) → ℕ → List Bool → List ℕ
slots g i [] = []
slots g i (b ∷ bs) = cond b (g i) 0 ∷ slots g (suc i) bs

abbrev pub hubs : List Bool → List Bool → ℕ → ℕ → List ℕ
hubs s ms h v = slots (hub s ms h v) 0 ms
