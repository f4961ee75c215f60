use Rattle.spec_laws.proofs.Generations.{begin}
use Rattle.spec_laws.proofs.lifecycle_laws.generations_begin.Goals as goal

pub returns : goal.returns
returns c = begin
