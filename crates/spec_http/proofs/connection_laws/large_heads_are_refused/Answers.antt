use Rattle.spec_http.proofs.Halves.{large_heads}
use Rattle.spec_http.proofs.connection_laws.large_heads_are_refused.Goals as goal

pub returns : goal.returns
returns c = large_heads
