use Rattle.spec_laws.proofs.Generations.{change_nothing_else}
use Rattle.spec_laws.proofs.lifecycle_laws.statuses_change_nothing_else.Goals as goal

pub returns : goal.returns
returns c = change_nothing_else
