use Rattle.spec_laws.proofs.ReadBacks.{answers_back}
use Rattle.spec_laws.proofs.answer_laws.answers_are_read_back.Goals as goal

pub returns : goal.returns
returns c = answers_back
