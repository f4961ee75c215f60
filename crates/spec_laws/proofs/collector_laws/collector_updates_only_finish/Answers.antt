use Rattle.spec_laws.proofs.Finished.{finishes}
use Rattle.spec_laws.proofs.collector_laws.collector_updates_only_finish.Goals as goal

pub returns : goal.returns
returns c = finishes
