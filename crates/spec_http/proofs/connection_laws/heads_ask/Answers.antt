use Rattle.spec_http.proofs.Halves.{heads_ask}
use Rattle.spec_http.proofs.connection_laws.heads_ask.Goals as goal

pub returns : goal.returns
returns c = heads_ask
