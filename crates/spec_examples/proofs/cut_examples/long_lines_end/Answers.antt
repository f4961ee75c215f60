use Rattle.spec_examples.proofs.LongLines.{long_lines}
use Rattle.spec_examples.proofs.cut_examples.long_lines_end.Goals as goal

pub returns : goal.returns
returns c = long_lines
