-- The worked cases, cited from the lower crates or computed. Assumes nothing.
use Rattle.std.proofs.Common.{refl}
use Rattle.expression.proofs.Examples.{worked}
use Rattle.rows.specs.RowsCases.{computes, parallel_rows, united_rows, alone_rows}
use Rattle.laws.proofs.Cabinets.{worked_courses}
use Rattle.view.specs.Cases.{viewed_p, viewed_q, viewed_alone, WorkedCases}
use Rattle.view.specs.View.{listed}

pub worked_cases : WorkedCases
unfolding computes viewed_p viewed_q viewed_alone listed
worked_cases =
    record {
      expressions = worked;
      courses = worked_courses;
      rows_parallel = parallel_rows;
      rows_united = united_rows;
      rows_alone = alone_rows;
      shows_p = refl;
      shows_q = refl;
      shows_alone = refl;
      few_labels = refl;
      no_constants = refl;
    }
