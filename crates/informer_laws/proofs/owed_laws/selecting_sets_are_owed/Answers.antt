use Rattle.informer_laws.proofs.Owing.{selecting_sets}
use Rattle.informer_laws.proofs.owed_laws.selecting_sets_are_owed.Goals as goal

pub returns : goal.returns
returns c = selecting_sets
