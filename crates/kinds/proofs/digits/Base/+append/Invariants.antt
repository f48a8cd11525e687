use Rattle.std.proofs.Common.{◌+◌}
use Rattle.kinds.proofs.digits.Base.+append.Given as goal

abbrev pub decreases-append : goal.decreases-append
decreases-append l = l.width + l.n
