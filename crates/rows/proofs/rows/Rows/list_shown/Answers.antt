use Rattle.std.proofs.Common.{List, vec_items, subst}
use Rattle.rows.specs.declared.row.Row.{Row}
use Rattle.rows.specs.Growing.{Grown}
use Rattle.rows.proofs.Fits.{fitting, fit_of, rows_shown}
use Rattle.rows.proofs.Heading.{steps_inside}
use Rattle.rows.proofs.rows.Rows.list_shown.Goals as goal

pub link-requires : goal.link-requires
link-requires c = fit_of c.args.arrows.now c.args.nodes c.args.root c.requires

pub invariant_of-walk : goal.invariant_of-walk
invariant_of-walk c =
    let f = fit_of c.args.arrows.now c.args.nodes c.args.root c.requires in
    record { fit = f; inside = steps_inside c.args.arrows.now f; linked = c.link.ensures }

pub list_marked-requires : goal.list_marked-requires
list_marked-requires c =
    record { fit = fit_of c.args.arrows.now c.args.nodes c.args.root c.requires; linked = c.link.ensures; nodes = (fitting c.args.arrows.now c.args.nodes c.args.root c.requires).nodes }

pub returns : goal.returns
returns c =
    subst (λ (more : List Row). Grown (vec_items c.args.self.now.rows) more (vec_items c.list_marked.new.self.rows) c.list_marked.result)
    (rows_shown c.args.arrows.now c.args.nodes c.args.root c.walk-shown.result c.requires c.walk-shown.ensures.marks) c.list_marked.ensures
