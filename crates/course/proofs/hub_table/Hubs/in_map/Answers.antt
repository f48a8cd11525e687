use Rattle.std.proofs.Common.{◌≡◌, ℕ, ◌+◌, false, cond, get_or, sym, ap, ◌∙◌, arith}
use Rattle.std.proofs.lemmas.List.{ext_get_or}
use Rattle.course.specs.Hubs.{hub, slots}
use Rattle.course.specs.Recursions.{members}
use Rattle.course.proofs.Slots.{slots_at, slots_long}
use Rattle.course.proofs.hub_table.Hubs.in_map.Goals as goal

pub returns : goal.returns
returns c =
    let h = c.args.self.now in
    let i = c.loop-marker.invariant in
    let g : ℕ → ℕ = hub (members h) h.set h.first c.args.node in
    ext_get_or 0 c.loop-marker.into (slots g 0 h.set) (i.0 ∙ sym (slots_long g 0 h.set ∙ h.eight))
    (λ k l. i.1 k (omega (arith, i.0, l, h.eight)) ∙ sym (slots_at g 0 h.set k (omega (arith, i.0, l, h.eight)) ∙ ap (λ n. cond (get_or h.set k false) (g n) 0) (let e : 0 + k ≡ k = omega arith in e)))
