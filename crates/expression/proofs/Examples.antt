-- The worked cases, each by computing. Assumes nothing.
use Rattle.std.proofs.Common.{refl}
use Rattle.expression.specs.Cases.{Worked, computes}

pub worked : Worked
unfolding computes
worked =
    record {
      admitted_p = refl;
      admitted_q = refl;
      without_constant = refl;
      nothing = refl;
      no_form = refl;
      own_part = refl;
      used_twice = refl;
      not_used = refl;
      open_whole = refl;
    }
