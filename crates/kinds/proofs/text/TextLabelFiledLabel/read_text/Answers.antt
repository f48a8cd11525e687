use Rattle.kinds.proofs.Makes.{reads}
use Rattle.kinds.proofs.text.TextLabelFiledLabel.read_text.Goals as goal

pub returns-clause-value : goal.returns-clause-value
returns-clause-value c = reads c.args.bytes.now c.make.result c.make.ensures.value
