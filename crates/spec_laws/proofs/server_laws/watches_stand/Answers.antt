use Rattle.spec_laws.proofs.StandingWatches.{watches_stand}
use Rattle.spec_laws.proofs.server_laws.watches_stand.Goals as goal

pub returns : goal.returns
returns c = watches_stand
