use Rattle.spec_laws.proofs.InitialStreams.{begun}
use Rattle.spec_laws.proofs.stream_laws.servers_begin.Goals as goal

pub returns : goal.returns
returns c = begun
