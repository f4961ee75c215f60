use Rattle.spec_laws.proofs.VerbLaws.{versions}
use Rattle.spec_laws.proofs.history_laws.writes_carry_their_revision.Goals as goal

pub returns : goal.returns
returns c = versions
