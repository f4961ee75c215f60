use Rattle.spec_http.proofs.Halves.{half_a_body}
use Rattle.spec_http.proofs.connection_laws.half_a_body_asks_nothing.Goals as goal

pub returns : goal.returns
returns c = half_a_body
