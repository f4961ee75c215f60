use Rattle.spec_http.proofs.Meanings.{one_thing}
use Rattle.spec_http.proofs.connection_laws.one_thing_is_asked.Goals as goal

pub returns : goal.returns
returns c = one_thing
