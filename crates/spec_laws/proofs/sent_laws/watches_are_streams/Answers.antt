use Rattle.spec_laws.proofs.ShownWatches.{watches_stream}
use Rattle.spec_laws.proofs.sent_laws.watches_are_streams.Goals as goal

pub returns : goal.returns
returns c = watches_stream
