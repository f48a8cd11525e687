use Rattle.std.proofs.Common.{false, arith}
use Rattle.std.proofs.lemmas.List.FromFn.{get_or-map-range_with_len}
use Rattle.kinds.specs.Texts.{house}
use Rattle.kinds.proofs.alphabet.in_house.Goals as goal

-- the table is the list of what the rule says at each byte: antt computes both
pub returns : goal.returns
returns c = rw c.from.ensures (get_or-map-range_with_len house 0 256 c.args.byte c.args.byte false c.ranges.byte.fits (omega arith))
