use Rattle.spec_laws.proofs.InitialStreams.{streams_sent}
use Rattle.spec_laws.proofs.stream_laws.initial_streams_are_sent.Goals as goal

pub returns : goal.returns
returns c = streams_sent
