use Rattle.manager_worker.proofs.Sparing.{spares_live_owners}
use Rattle.manager_worker.proofs.laws.the_collector_spares_live_owners.Goals as goal

pub returns : goal.returns
returns g c = spares_live_owners g.L.Looking.shows g.A.Api.answers
