use Rattle.spec_laws.proofs.WatchStarts.{present_empty}
use Rattle.spec_laws.proofs.stream_laws.present_starts_are_empty.Goals as goal

pub returns : goal.returns
returns c = present_empty
