use Rattle.spec_laws.proofs.Spared.{spares}
use Rattle.spec_laws.proofs.collector_laws.collector_spares_live_owners.Goals as goal

pub returns : goal.returns
returns c = spares
