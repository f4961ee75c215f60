use Rattle.chunked.proofs.Bodies.{one_body}
use Rattle.chunked.proofs.laws.bodies_are_one.Goals as goal

pub returns : goal.returns
returns c = λ chunks others input rest left h k. one_body h.0 k.0 chunks others input rest left h.1 k.1
