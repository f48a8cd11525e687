use Rattle.std.proofs.Common.{List, vec_items, sym, subst}
use Rattle.rows.specs.declared.row.Row.{Row}
use Rattle.rows.specs.Growing.{Grown}
use Rattle.rows.specs.Rows.{rows_of}
use Rattle.rows.proofs.Fits.{unfit_told, many_told, few_told}
use Rattle.rows.proofs.Showing.{rows_law}
use Rattle.rows.proofs.rows.Rows.list.Goals as goal

pub returns-then-not-fit : goal.returns-then-not-fit
returns-then-not-fit c =
    record {
      answer = unfit_told c.args.arrows.now c.args.nodes c.args.root (vec_items c.clear.new.self) (sym c.if-not-fit.ensures) c.clear.ensures.items;
      law = rows_law;
    }

pub returns-then-is_err : goal.returns-then-is_err
returns-then-is_err c =
    record {
      answer = many_told c.args.arrows.now c.args.nodes c.args.root (vec_items c.clear-then-is_err.new.self) (vec_items c.list_shown-answer.new.self.rows) c.list_shown-answer.result
          (sym c.if-not-fit.ensures)
          (subst (λ (before : List Row). Grown before (rows_of c.args.arrows.now c.args.nodes c.args.root) (vec_items c.list_shown-answer.new.self.rows) c.list_shown-answer.result) c.clear.ensures.items c.list_shown-answer.ensures)
          (sym c.if-is_err.ensures.value) c.clear-then-is_err.ensures.items;
      law = rows_law;
    }

pub returns-else-is_err : goal.returns-else-is_err
returns-else-is_err c =
    record {
      answer = few_told c.args.arrows.now c.args.nodes c.args.root (vec_items c.list_shown-answer.new.self.rows) c.list_shown-answer.result
          (sym c.if-not-fit.ensures)
          (subst (λ (before : List Row). Grown before (rows_of c.args.arrows.now c.args.nodes c.args.root) (vec_items c.list_shown-answer.new.self.rows) c.list_shown-answer.result) c.clear.ensures.items c.list_shown-answer.ensures)
          (sym c.if-is_err.ensures.value);
      law = rows_law;
    }
