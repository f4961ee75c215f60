use Rattle.controller_watches.proofs.NothingMissed.{one_as_it_was}
use Rattle.controller_watches.proofs.watch_laws.one_is_as_it_was.Goals as goal

pub returns : goal.returns
returns c = one_as_it_was
