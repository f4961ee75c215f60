use Rattle.spec_laws.proofs.VerbLaws.{creates}
use Rattle.spec_laws.proofs.history_laws.creates_are_new.Goals as goal

pub returns : goal.returns
returns c = creates
