use Rattle.std.proofs.Common.{◌≡◌, ℕ, ◌+◌, ◌<◌, List, ◌∷◌, length, take, drop, sym, ap, ◌∙◌, arith, rules}
use Rattle.std.proofs.lemmas.Grind.{common_steps}
use Rattle.listing.specs.Lines.{lines_of}
use Rattle.listing.proofs.Cuts.{first_cut}
use Rattle.listing.proofs.lines.LinesIterator.next.Goals as goal

pub returns : goal.returns
returns c =
    let text = c.args.self.now.0.now in
    let n = c.line_len-len.result in
    let len = c.line_len-len.ensures in
    let rest = c.unwrap_or-self.result.now in
    let some : 0 < length text = grind (arith, common_steps) in
    let after : rest ≡ drop (n + 1) text = grind (arith, common_steps) in
    let cut : lines_of text ≡ take n text ∷ lines_of rest = first_cut text n some len.within len.before len.found ∙ ap (λ (l : List ℕ). take n text ∷ lines_of l) (sym after) in
    let fewer : length (lines_of text) ≡ length (lines_of rest) + 1 = omega (arith, ap length cut) in
    record { steps = cut; goes = search rules }
