use Rattle.spec_laws.proofs.Limits.{bodies}
use Rattle.spec_laws.proofs.history_laws.bodies_fit.Goals as goal

pub returns : goal.returns
returns c = bodies
