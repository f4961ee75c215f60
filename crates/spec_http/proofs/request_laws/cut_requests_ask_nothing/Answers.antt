use Rattle.spec_http.proofs.Asked.{cut_asks_nothing}
use Rattle.spec_http.proofs.request_laws.cut_requests_ask_nothing.Goals as goal

pub returns : goal.returns
returns c = cut_asks_nothing
