use Rattle.spec_laws.proofs.InitialStreams.{initial_streams}
use Rattle.spec_laws.proofs.stream_laws.initial_streams_are_served.Goals as goal

pub returns : goal.returns
returns c = initial_streams
