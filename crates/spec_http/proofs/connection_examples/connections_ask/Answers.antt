use Rattle.spec_http.proofs.ConnectionsWorked.{heads_end, bodies_waited}
use Rattle.spec_http.proofs.connection_examples.connections_ask.Goals as goal

pub returns : goal.returns
returns c = record { heads_end = heads_end; bodies_are_waited_for = bodies_waited }
