use Rattle.spec_http.proofs.Passing.{requests_read}
use Rattle.spec_http.proofs.connection_laws.requests_are_read.Goals as goal

pub returns : goal.returns
returns c = requests_read
