use Rattle.spec_http.proofs.Proper.{proper_read}
use Rattle.spec_http.proofs.connection_laws.proper_requests_are_read.Goals as goal

pub returns : goal.returns
returns c = proper_read
