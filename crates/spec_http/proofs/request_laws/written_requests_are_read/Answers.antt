use Rattle.spec_http.proofs.Asked.{written_asked}
use Rattle.spec_http.proofs.request_laws.written_requests_are_read.Goals as goal

pub returns : goal.returns
returns c = written_asked
