use Rattle.std.proofs.Common.{◌≡◌, length, Decides, ap, arith}
use Rattle.std.proofs.lemmas.Slice.Eq.{slice_eq-Decides}
use Rattle.kinds.specs.Texts.{trimmed, equal}
use Rattle.kinds.specs.Trims.{trimmed_same, equal_exact}
use Rattle.kinds.proofs.Tells.{decided}
use Rattle.kinds.proofs.text.TextLabelLabel.same.Goals as goal
use Rattle.std.proofs.lemmas.Bool.Decides.{Decides-eqb}

pub returns : goal.returns
returns c =
    let a = c.args.self.now.bytes in
    let b = c.args.other.now.bytes in
    let long : length a ≡ length b = omega arith in
    let d = slice_eq-Decides Decides-eqb a b _ c.eq.ensures in
    let exact : Decides c.eq.result (trimmed a ≡ trimmed b) = (λ t. ap trimmed (d.0 t), λ e. d.1 (trimmed_same a b long e)) in
    record { value = decided (equal (trimmed a) (trimmed b)) c.eq.result (equal_exact (trimmed a) (trimmed b)) exact; exact = exact }
