use Rattle.http_request_head.proofs.Wholes.{found_asks}
use Rattle.http_request_head.proofs.laws.found_heads_ask.Goals as goal

pub returns : goal.returns
returns c = found_asks
