use Rattle.view.specs.Numbers.{NumberedBelow}
use Rattle.view.proofs.class_table.LabelTables.number_all.Given as goal

abbrev pub invariant-loop-k : goal.invariant-loop-k
invariant-loop-k g l = NumberedBelow g.L.Label.meaning l.self.labels.now l.self.constants.now l.of l.classes l.k
