use Rattle.spec_laws.proofs.VerbLaws.{identity}
use Rattle.spec_laws.proofs.history_laws.writes_keep_identity.Goals as goal

pub returns : goal.returns
returns c = identity
