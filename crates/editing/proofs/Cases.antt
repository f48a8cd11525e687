-- The worked cases of drafts, each by computing. Assumes nothing.
use Rattle.std.proofs.Common.{refl, arith}
use Rattle.laws.specs.Cabinets.{computes as run-computes}
use Rattle.rows.specs.RowsCases.{computes as rows-compute}
use Rattle.editing.specs.Cases.{WorkedDrafts, answered}

pub worked_drafts_lem : WorkedDrafts
unfolding answered run-computes rows-compute
worked_drafts_lem =
    record {
      opens_p = record { sound = record { some = omega arith; few_nodes = omega arith; few_arrows = omega arith; ends = refl }; rules = refl; labels = refl; run = refl };
      opens_q = record { sound = record { some = omega arith; few_nodes = omega arith; few_arrows = omega arith; ends = refl }; rules = refl; labels = refl; run = refl };
      taken_p = refl;
      turned_p = refl;
      taken_q = refl;
      clash_q = refl;
      constant_q = refl;
      constant_first_q = refl;
    }
