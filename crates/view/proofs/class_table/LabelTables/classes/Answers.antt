use Rattle.std.proofs.Common.{length}
use Rattle.view.proofs.Numbering.{tells}
use Rattle.view.proofs.class_table.LabelTables.classes.Goals as goal

pub returns : goal.returns
returns g c =
    tells g.L.Label.meaning c.args.self.now.labels.now c.args.self.now.constants.now
    (record { arrows = c.number_all.new.classes; constants = c.number_all-2.new.classes })
    (length c.args.self.now.labels.now) (length c.args.self.now.constants.now) c.number_all.ensures c.number_all-2.ensures
