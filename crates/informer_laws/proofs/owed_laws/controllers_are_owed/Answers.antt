use Rattle.informer_laws.proofs.Owing.{controllers}
use Rattle.informer_laws.proofs.owed_laws.controllers_are_owed.Goals as goal

pub returns : goal.returns
returns c = controllers
