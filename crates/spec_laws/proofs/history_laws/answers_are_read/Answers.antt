use Rattle.spec_laws.proofs.VerbLaws.{reads}
use Rattle.spec_laws.proofs.history_laws.answers_are_read.Goals as goal

pub returns : goal.returns
returns c = reads
