use Rattle.spec_laws.proofs.KeptOwners.{cuts_keep}
use Rattle.spec_laws.proofs.collector_laws.cuts_keep_owners.Goals as goal

pub returns : goal.returns
returns c = cuts_keep
