-- The flags of the nodes that arrows reach are exactly those of inductive reachability. Assumes nothing.
use Rattle.std.proofs.Common.{◌≡◌, ℕ, ◌<◌, true, false, List, map, length, get_or, subst}
use Rattle.course.specs.declared.course.Arrow.{Arrow}
use Rattle.walks.specs.Reach.{In, go}
use Rattle.course.specs.Reach.{ends, reached}
use Rattle.walks.proofs.Marking.{marked_within}
use Rattle.walks.proofs.Members.{in_map}
use Rattle.walks.proofs.Walking.{length_lead, lead_reached}
use Rattle.laws.specs.Reached.{ReachedExact}

pub length_reached : (n : ℕ) (arrows : List Arrow) (r : ℕ) → length (reached n arrows r) ≡ n
unfolding reached
length_reached n arrows r = length_lead n (map ends arrows) r

pub reached_exact : ReachedExact
unfolding reached
reached_exact n arrows r v h = lead_reached n (map ends arrows) r v h

-- only nodes are reached
pub reached_within : (n : ℕ) (arrows : List Arrow) (r v : ℕ) → get_or (reached n arrows r) v false ≡ true → v < n
reached_within n arrows r v q = subst (λ k. v < k) (length_reached n arrows r) (marked_within (reached n arrows r) v q)

-- where the tail of an arrow is reached, so is its head
pub head_reached : (h : ℕ) (arrows : List Arrow) (r : ℕ) (a : Arrow) → In a arrows → a.head < h →
    get_or (reached h arrows r) a.tail false ≡ true → get_or (reached h arrows r) a.head false ≡ true
head_reached h arrows r a i l q =
    let t : a.tail < h = reached_within h arrows r a.tail q in
    (reached_exact h arrows r a.head l).1 (go ((reached_exact h arrows r a.tail t).0 q) (in_map ends a arrows i))
