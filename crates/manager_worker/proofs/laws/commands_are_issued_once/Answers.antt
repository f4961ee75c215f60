use Rattle.manager_worker.proofs.Repeated.{issued_in_order}
use Rattle.manager_worker.proofs.laws.commands_are_issued_once.Goals as goal

pub returns : goal.returns
returns g c = issued_in_order g.L.Looking.shows g.A.Api.answers
