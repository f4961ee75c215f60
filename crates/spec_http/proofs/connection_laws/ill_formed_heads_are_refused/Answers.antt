use Rattle.spec_http.proofs.Halves.{ill_formed}
use Rattle.spec_http.proofs.connection_laws.ill_formed_heads_are_refused.Goals as goal

pub returns : goal.returns
returns c = ill_formed
