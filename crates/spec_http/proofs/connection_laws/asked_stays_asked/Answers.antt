use Rattle.spec_http.proofs.Staying.{stays_asked}
use Rattle.spec_http.proofs.connection_laws.asked_stays_asked.Goals as goal

pub returns : goal.returns
returns c = stays_asked
