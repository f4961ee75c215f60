use Rattle.spec_laws.proofs.ReadRequests.{requests_asked}
use Rattle.spec_laws.proofs.reached_laws.requests_are_asked.Goals as goal

pub returns : goal.returns
returns c = requests_asked
