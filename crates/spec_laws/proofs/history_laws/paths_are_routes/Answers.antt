use Rattle.spec_laws.proofs.Paths.{routes}
use Rattle.spec_laws.proofs.history_laws.paths_are_routes.Goals as goal

pub returns : goal.returns
returns c = routes
