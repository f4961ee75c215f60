use Rattle.spec_laws.proofs.ServedWindows.{revisions_served}
use Rattle.spec_laws.proofs.window_laws.revisions_are_served.Goals as goal

pub returns : goal.returns
returns c = revisions_served
