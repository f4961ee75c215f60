use Rattle.spec_laws.proofs.VerbLaws.{writes_fit}
use Rattle.spec_laws.proofs.history_laws.writes_fit.Goals as goal

pub returns : goal.returns
returns c = writes_fit
