use Rattle.chunked.proofs.Bodies.{written}
use Rattle.chunked.proofs.laws.written_is_a_body.Goals as goal

pub returns : goal.returns
returns c = written
