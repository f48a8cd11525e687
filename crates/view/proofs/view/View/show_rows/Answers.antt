use Rattle.std.proofs.Common.{vec_items}
use Rattle.course.specs.View.{course_of}
use Rattle.view.specs.View.{seen}
use Rattle.view.proofs.Listings.{course_fits, taken, refused}
use Rattle.view.proofs.view.View.show_rows.Goals as goal

pub returns-in-Ok : goal.returns-in-Ok
returns-in-Ok c =
    let w = c.args.self.now.workspace in
    taken (course_of w) c.args.node (seen c.args.self.now) (vec_items c.list.new.self.rows) (course_fits w c.args.node c.requires)
    (rw (c.arrows-arrows.ensures, c.nodes-nodes.ensures) at c.in-Ok.ensures.answer)

pub returns-in-Err : goal.returns-in-Err
returns-in-Err c =
    let w = c.args.self.now.workspace in
    refused (course_of w) c.args.node (seen c.args.self.now) (vec_items c.list.new.self.rows) (course_fits w c.args.node c.requires)
    c.in-Err.field-0 (seen c.refuse.new.self) c.refuse.result
    (rw (c.arrows-arrows.ensures, c.nodes-nodes.ensures) at c.in-Err.ensures.answer) c.refuse.ensures.answer c.refuse.ensures.after
