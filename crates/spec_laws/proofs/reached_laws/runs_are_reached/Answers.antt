use Rattle.spec_laws.proofs.ReadRequests.{runs_reached}
use Rattle.spec_laws.proofs.reached_laws.runs_are_reached.Goals as goal

pub returns : goal.returns
returns c = runs_reached
