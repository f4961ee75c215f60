use Rattle.spec_http.proofs.Asked.{long_refused}
use Rattle.spec_http.proofs.request_laws.long_requests_are_refused.Goals as goal

pub returns : goal.returns
returns c = long_refused
