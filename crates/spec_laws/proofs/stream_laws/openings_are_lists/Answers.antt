use Rattle.spec_laws.proofs.InitialStreams.{openings}
use Rattle.spec_laws.proofs.stream_laws.openings_are_lists.Goals as goal

pub returns : goal.returns
returns c = openings
