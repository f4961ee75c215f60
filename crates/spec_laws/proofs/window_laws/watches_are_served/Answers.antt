use Rattle.spec_laws.proofs.ServedWindows.{watch_served}
use Rattle.spec_laws.proofs.window_laws.watches_are_served.Goals as goal

pub returns : goal.returns
returns c = watch_served
