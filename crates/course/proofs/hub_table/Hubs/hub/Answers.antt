use Rattle.std.proofs.Common.{ℕ, ◌*◌, ◌<◌, ◌≤◌, get_or, mul-le-mul, arith}
use Rattle.course.specs.declared.hub_table.Hubs.{Hubs}
use Rattle.walks.proofs.Marking.{trues_within}
use Rattle.course.proofs.Ranks.{trues_taken}
use Rattle.course.proofs.hub_table.Hubs.hub.Goals as goal

product : (a b : ℕ) → a ≤ 1024 → b ≤ 8 → a * b ≤ 8192
product a b h l = let q : a * b ≤ 1024 * 8 = mul-le-mul h l in q

-- the hubs before a node's are few
before : (h : Hubs) (v : ℕ) → v < h.first → get_or h.ranks v 0 * h.width ≤ 8192
before h v l =
    product (get_or h.ranks v 0) h.width (omega (arith, h.ranked v (omega (arith, l, h.low)), trues_taken h.marks v, h.marked))
    (omega (arith, h.wide, trues_within h.set, h.eight))

pub overflow_mul-result : goal.overflow_mul-result
overflow_mul-result c = omega (arith, before c.args.self.now c.args.node c.requires.0)

pub overflow_add-result : goal.overflow_add-result
overflow_add-result c = omega (arith, before c.args.self.now c.args.node c.requires.0, c.args.self.now.low)

pub overflow_add-result-2 : goal.overflow_add-result-2
overflow_add-result-2 c =
    let h = c.args.self.now in
    omega (arith, before h c.args.node c.requires.0, h.low, h.eight, h.placed c.args.marker c.requires.1, trues_taken h.set c.args.marker)
