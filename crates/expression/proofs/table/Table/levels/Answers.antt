use Rattle.std.proofs.Common.{◌≡◌, ℕ, ◌-◌, ◌<◌, ◌≤◌, List, length, get_or, replicate, refl, subst, ⊎_elim, arith}
use Rattle.std.proofs.lemmas.List.{get_or-replicate, get_or_past}
use Rattle.std.proofs.lemmas.Bool.{cases_lt}
use Rattle.expression.specs.declared.form.Form.{Form}
use Rattle.expression.specs.declared.form.Form.TheVariants.{Zero}
use Rattle.expression.specs.Forms.{parts_of}
use Rattle.expression.specs.Parts.{times}
use Rattle.expression.proofs.Levelling.{Handed, raised_bound, levelled_at, levelled_more}
use Rattle.expression.proofs.table.Table.levels.Goals as goal

none_yet : (p : ℕ) → ◌≡◌ {A = ℕ} (get_or (replicate 64 0) p 0) 0
none_yet p =
    ⊎_elim
    (λ (h : p < 64). get_or-replicate 64 p 0 0 h)
    (λ (h : 64 ≤ p). get_or_past (replicate 64 0) p 0 (omega arith))
    (cases_lt p 64)

pub loop-place-init : goal.loop-place-init
loop-place-init c = (
  refl,
  (λ p. omega (arith, none_yet p)),
  (none_yet (length c.args.self.now.forms.items - 1), λ r p h l w. let z : ⊥ = omega arith in absurd z),
)

pub loop-place-preserved : goal.loop-place-preserved
loop-place-preserved c =
    let ps = c.args.self.now.forms.items in
    let i = c.loop-place.place - 1 in
    let inv = c.loop-place.invariant in
    let handed = subst (λ (qs : List Form). Handed (get_or qs i Zero) (get_or c.loop-place.levels i 0) c.loop-place.levels c.give_levels.new.levels) c.deref.ensures.0
    (c.give_levels.ensures.parts, c.give_levels.ensures.others) in (
      omega arith,
      (λ p.
          ⊎_elim
          (λ (z : 0 < times p (parts_of (get_or ps i Zero))).
          omega (arith, handed.0 p z, raised_bound (get_or ps i Zero) p (get_or c.loop-place.levels i 0), inv.1 i))
          (λ (z : times p (parts_of (get_or ps i Zero)) ≤ 0). omega (arith, handed.1 p (omega arith), inv.1 p))
          (cases_lt 0 (times p (parts_of (get_or ps i Zero))))),
      levelled_more ps c.args.self.now.lower_parts c.requires.once i c.loop-place.levels c.give_levels.new.levels (omega arith)
          (inv.2.0, λ r p m k w. inv.2.1 r p (omega arith) k w) handed,
    )

pub returns : goal.returns
returns c p l =
    levelled_at c.args.self.now.forms.items c.args.self.now.lower_parts c.requires.once c.loop-place.place c.loop-place.levels c.loop-place.invariant.2 p (omega arith) l
