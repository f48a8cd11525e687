use Rattle.std.proofs.Common.{◌≡◌, true, sym, ◌∙◌}
use Rattle.kinds.specs.Texts.{legal}
use Rattle.kinds.proofs.Makes.{filled, made}
use Rattle.kinds.proofs.text.TextLabel.make.Goals as goal

pub returns : goal.returns
returns c =
    let text = c.args.text.now in
    let is_label : legal text ≡ true = sym c.is_legal.ensures ∙ c.if-not-is_legal.false in
    let m = made text _ is_label (filled text _ c.copy_from_slice.ensures.after) in
    record { value = m.0; means = m.1; kept = m.2 }
