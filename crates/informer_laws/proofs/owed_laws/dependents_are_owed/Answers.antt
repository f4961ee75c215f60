use Rattle.informer_laws.proofs.Owing.{dependents_owed}
use Rattle.informer_laws.proofs.owed_laws.dependents_are_owed.Goals as goal

pub returns : goal.returns
returns c = dependents_owed
