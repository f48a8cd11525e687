-- The worked cases, each by computing. Assumes nothing.
use Rattle.std.proofs.Common.{refl, arith}
use Rattle.laws.specs.Cabinets.{WorkedCourses, computes, run_p, run_q, by_number_p, by_number_q}

pub worked_courses : WorkedCourses
unfolding run_p run_q by_number_p by_number_q computes
worked_courses =
    record {
      sound_p = record { some = omega arith; few_nodes = omega arith; few_arrows = omega arith; ends = refl };
      rules_p = refl;
      sizes_p = refl;
      end_p = refl;
      numbers_p = refl;
      sound_q = record { some = omega arith; few_nodes = omega arith; few_arrows = omega arith; ends = refl };
      rules_q = refl;
      end_q = refl;
      numbers_q = refl;
    }
