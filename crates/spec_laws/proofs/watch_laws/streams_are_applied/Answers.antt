use Rattle.spec_laws.proofs.Streamed.{stream_applied}
use Rattle.spec_laws.proofs.watch_laws.streams_are_applied.Goals as goal

pub returns : goal.returns
returns c = stream_applied
