use Rattle.spec_http.proofs.Halves.{many_fields}
use Rattle.spec_http.proofs.connection_laws.many_fields_are_refused.Goals as goal

pub returns : goal.returns
returns c = many_fields
