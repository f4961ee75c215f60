use Rattle.spec_laws.proofs.Past.{set}
use Rattle.spec_laws.proofs.history_laws.writes_set_state.Goals as goal

pub returns : goal.returns
returns c = set
