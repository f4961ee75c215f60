use Rattle.chunked.proofs.Runs.{not_invented}
use Rattle.chunked.proofs.laws.nothing_is_invented.Goals as goal

pub returns : goal.returns
returns c = not_invented
