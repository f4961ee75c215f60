use Rattle.spec_laws.proofs.Awaited.{waits}
use Rattle.spec_laws.proofs.awaited_laws.waits_for_each.Goals as goal

pub returns : goal.returns
returns c = waits
