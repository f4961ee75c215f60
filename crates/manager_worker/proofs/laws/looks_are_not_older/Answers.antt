use Rattle.manager_worker.proofs.Older.{not_older}
use Rattle.manager_worker.proofs.laws.looks_are_not_older.Goals as goal

pub returns : goal.returns
returns g c = not_older g.L.Looking.shows
