use Rattle.std.proofs.Common.{refl}
use Rattle.spec_http.proofs.OnLiterals.{http_on_literals}
use Rattle.http_response.proofs.constants.last_chunk.Goals as goal

pub returns : goal.returns
unfolding http_on_literals
returns c = refl
