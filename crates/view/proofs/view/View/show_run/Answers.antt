use Rattle.std.proofs.Common.{ℕ, sym, subst}
use Rattle.course.specs.Course.{Run}
use Rattle.course.specs.View.{course_of}
use Rattle.view.specs.View.{seen, pictured, Answered}
use Rattle.view.proofs.Listings.{picture_told}
use Rattle.view.proofs.view.View.show_run.Goals as goal

pub returns-in-Ok : goal.returns-in-Ok
returns-in-Ok c =
    let before = seen c.args.self.now in
    let after = seen c.show_rows.new.self in
    let r = c.show_rows.result in
    subst (λ (run : Run ℕ). Answered (pictured run) before after r) (sym c.in-Ok.ensures.told.0)
    (picture_told c.in-Ok.node (course_of c.run.new.self) _ before after r c.show_rows.ensures)
