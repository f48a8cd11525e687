use Rattle.std.proofs.Common.{◌≡◌, length, take, sym, ap, ◌∙◌}
use Rattle.std.proofs.lemmas.Bool.Decides.{Decides-eqb}
use Rattle.std.proofs.lemmas.Slice.Eq.{slice_eq-Decides}
use Rattle.kinds.specs.Settings.{setting_text}
use Rattle.kinds.proofs.Buffers.{text_first}
use Rattle.kinds.proofs.setting.has_text.Goals as goal

pub returns-in-Some : goal.returns-in-Some
returns-in-Some c =
    let t = setting_text c.args.label in
    let n = c.in-Some.len in
    let wrote = c.in-Some.ensures in
    let len : n ≡ length t = cc wrote.value in
    let front : take n c.write_text.new.out ≡ t = ap (take n) wrote.after ∙ text_first t _ n len in
    let d = slice_eq-Decides Decides-eqb _ _ _ c.eq.ensures in
    (λ yes-eq. sym front ∙ d.0 yes-eq, λ e. d.1 (front ∙ e))
