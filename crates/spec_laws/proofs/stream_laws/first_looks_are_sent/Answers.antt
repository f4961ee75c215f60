use Rattle.spec_laws.proofs.InitialStreams.{first_looks_sent}
use Rattle.spec_laws.proofs.stream_laws.first_looks_are_sent.Goals as goal

pub returns : goal.returns
returns c = first_looks_sent
