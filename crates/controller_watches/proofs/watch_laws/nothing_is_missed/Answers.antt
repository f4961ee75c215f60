use Rattle.controller_watches.proofs.NothingMissed.{nothing_missed}
use Rattle.controller_watches.proofs.watch_laws.nothing_is_missed.Goals as goal

pub returns : goal.returns
returns c = nothing_missed
