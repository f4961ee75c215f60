use Rattle.spec_client_go.proofs.DueKeys.{only_list}
use Rattle.keyed_queues.proofs.delay_laws.due_are_the_only_list.Goals as goal

pub returns : goal.returns
returns g c = only_list g.K.Named.order g.met.K.Named.ordered g.met.K.Named.apart
