use Rattle.spec_laws.proofs.SelectorWritten.{clear}
use Rattle.spec_laws.proofs.grammar_laws.texts_are_clear.Goals as goal

pub returns : goal.returns
returns c = clear
