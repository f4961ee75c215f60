use Rattle.spec_laws.proofs.ReadRequests.{moments_timed}
use Rattle.spec_laws.proofs.reached_laws.moments_are_times.Goals as goal

pub returns : goal.returns
returns c = moments_timed
