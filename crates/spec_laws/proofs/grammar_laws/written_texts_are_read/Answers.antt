use Rattle.spec_laws.proofs.SelectorWritten.{written}
use Rattle.spec_laws.proofs.grammar_laws.written_texts_are_read.Goals as goal

pub returns : goal.returns
returns c = written
