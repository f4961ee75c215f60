use Rattle.spec_laws.proofs.Generations.{no_change}
use Rattle.spec_laws.proofs.lifecycle_laws.no_write_no_change.Goals as goal

pub returns : goal.returns
returns c = no_change
