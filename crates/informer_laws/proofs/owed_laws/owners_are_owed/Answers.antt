use Rattle.informer_laws.proofs.Owing.{owners}
use Rattle.informer_laws.proofs.owed_laws.owners_are_owed.Goals as goal

pub returns : goal.returns
returns c = owners
