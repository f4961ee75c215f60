use Rattle.spec_laws.proofs.Generations.{count}
use Rattle.spec_laws.proofs.lifecycle_laws.generations_count.Goals as goal

pub returns : goal.returns
returns c = count
