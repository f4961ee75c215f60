use Rattle.spec_client_go.proofs.DueKeys.{in_turn}
use Rattle.keyed_queues.proofs.delay_laws.due_are_in_turn.Goals as goal

pub returns : goal.returns
returns g c = in_turn g.K.Named.order g.met.K.Named.ordered g.met.K.Named.apart
