use Rattle.spec_laws.proofs.WatchStarts.{unclosed}
use Rattle.spec_laws.proofs.stream_laws.unclosed_streams_are_lists.Goals as goal

pub returns : goal.returns
returns c = unclosed
