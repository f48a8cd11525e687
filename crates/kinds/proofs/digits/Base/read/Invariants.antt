use Rattle.std.proofs.Common.{take}
use Rattle.kinds.specs.Digits.{radix_of, Spells}
use Rattle.kinds.proofs.digits.Base.read.Given as goal

abbrev pub invariant-loop-byte : goal.invariant-loop-byte
invariant-loop-byte l = Spells (radix_of l.self) (take l.byte-index l.digits) l.n
