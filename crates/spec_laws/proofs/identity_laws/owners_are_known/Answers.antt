use Rattle.spec_laws.proofs.KnownOwners.{known}
use Rattle.spec_laws.proofs.identity_laws.owners_are_known.Goals as goal

pub returns : goal.returns
returns c = known
