use Rattle.spec_laws.proofs.SelectorReadBack.{read_back}
use Rattle.spec_laws.proofs.grammar_laws.read_texts_are_written.Goals as goal

pub returns : goal.returns
returns c = read_back
