use Rattle.spec_laws.proofs.PastWindows.{kept_past}
use Rattle.spec_laws.proofs.window_laws.recorded_changes_are_past.Goals as goal

pub returns : goal.returns
returns c = kept_past
