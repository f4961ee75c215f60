use Rattle.chunked.proofs.Runs.{read_as}
use Rattle.chunked.proofs.laws.bodies_are_read.Goals as goal

pub returns : goal.returns
returns c = read_as
