use Rattle.spec_laws.proofs.Streamed.{initial_stream_applied}
use Rattle.spec_laws.proofs.watch_laws.initial_streams_are_applied.Goals as goal

pub returns : goal.returns
returns c = initial_stream_applied
