use Rattle.spec_laws.proofs.StandingWatches.{watches_go_on}
use Rattle.spec_laws.proofs.server_laws.watches_go_on.Goals as goal

pub returns : goal.returns
returns c = watches_go_on
