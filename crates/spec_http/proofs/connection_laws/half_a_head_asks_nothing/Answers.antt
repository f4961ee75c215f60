use Rattle.spec_http.proofs.Halves.{half_a_head}
use Rattle.spec_http.proofs.connection_laws.half_a_head_asks_nothing.Goals as goal

pub returns : goal.returns
returns c = half_a_head
