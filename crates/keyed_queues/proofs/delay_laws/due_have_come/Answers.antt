use Rattle.spec_client_go.proofs.DueKeys.{have_come}
use Rattle.keyed_queues.proofs.delay_laws.due_have_come.Goals as goal

pub returns : goal.returns
returns g c = have_come g.K.Named.order g.met.K.Named.ordered g.met.K.Named.apart
