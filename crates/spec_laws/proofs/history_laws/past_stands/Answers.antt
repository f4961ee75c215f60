use Rattle.spec_laws.proofs.Past.{past}
use Rattle.spec_laws.proofs.history_laws.past_stands.Goals as goal

pub returns : goal.returns
returns c = past
