use Rattle.spec_laws.proofs.InitialStreams.{early_closings}
use Rattle.spec_laws.proofs.stream_laws.early_closings_are_none.Goals as goal

pub returns : goal.returns
returns c = early_closings
