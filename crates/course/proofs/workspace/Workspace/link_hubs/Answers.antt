use Rattle.std.proofs.Common.{◌≡◌, ℕ, ◌<◌, false, true, get_or, refl, arith}
use Rattle.course.specs.declared.hub_table.Hubs.{Hubs}
use Rattle.course.specs.Hubs.{hub}
use Rattle.course.specs.Recursions.{members, hubs_at}
use Rattle.course.proofs.Loops.{going_set, going_past, going_stops_set, going_ends}
use Rattle.course.proofs.Slots.{slot_set}
use Rattle.course.proofs.workspace.Workspace.link_hubs.Goals.{then-on+in_ok-add_arrow, else-on}
use Rattle.course.proofs.workspace.Workspace.link_hubs.Goals as goal

-- the hub of a node for a marker of the set
at : (h : Hubs) (v m : ℕ) → m < 8 → get_or h.set m false ≡ true → get_or (hubs_at h v) m 0 ≡ hub (members h) h.set h.first v m
at h v m l on = slot_set (hub (members h) h.set h.first v) h.set m (omega (arith, h.eight)) on

pub add_arrow-requires : goal.add_arrow-requires
add_arrow-requires c =
    let h = c.args.hubs.now in
    let m = c.loop-marker.marker in
    let g = c.loop-marker.invariant.grows in
    record {
      tail = omega (arith, at h c.args.tail m c.loop-marker-test.true c.if-on.true, c.hub-from.ensures, c.requires.tails m, g);
      head = omega (arith, at h c.args.head m c.loop-marker-test.true c.if-on.true, c.hub-to.ensures, c.requires.heads m, g);
    }

pub returns-in_err-add_arrow : goal.returns-in_err-add_arrow
returns-in_err-add_arrow c =
    let h = c.args.hubs.now in
    let m = c.loop-marker.marker in
    let lt : m < 8 = c.loop-marker-test.true in
    going_stops_set c.from_residual.result c.loop-marker.invariant (omega (arith, h.eight)) c.if-on.true
    (rw (at h c.args.tail m lt c.if-on.true, at h c.args.head m lt c.if-on.true, ← c.hub-from.ensures, ← c.hub-to.ensures) c.in_err-add_arrow.ensures) c.from_residual.ensures.1

pub loop-marker-preserved : goal.loop-marker-preserved
loop-marker-preserved c =
    let h = c.args.hubs.now in
    let m = c.loop-marker.marker in
    let lt : m < 8 = c.loop-marker-test.true in
    elim c.if-on.branch [
      | then-on+in_ok-add_arrow w ↦
          going_set c.loop-marker.invariant (omega (arith, h.eight)) w.if-on.true
          (rw (at h c.args.tail m lt w.if-on.true, at h c.args.head m lt w.if-on.true, ← w.hub-from.ensures, ← w.hub-to.ensures) w.in_ok-add_arrow.ensures) w.self-is
      | else-on w ↦ going_past c.loop-marker.invariant (omega (arith, h.eight)) w.if-on.false refl w.self-is
    ]

pub returns : goal.returns
returns c = going_ends c.loop-marker.invariant (omega (arith, c.args.hubs.now.eight, c.loop-marker-test.false))
