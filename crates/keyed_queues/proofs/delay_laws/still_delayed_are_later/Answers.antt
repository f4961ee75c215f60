use Rattle.spec_client_go.proofs.DueKeys.{still_later}
use Rattle.keyed_queues.proofs.delay_laws.still_delayed_are_later.Goals as goal

pub returns : goal.returns
returns g c = still_later g.K.Named.order g.met.K.Named.ordered g.met.K.Named.apart
