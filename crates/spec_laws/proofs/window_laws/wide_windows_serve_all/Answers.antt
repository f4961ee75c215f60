use Rattle.spec_laws.proofs.ServedWindows.{wide_served}
use Rattle.spec_laws.proofs.window_laws.wide_windows_serve_all.Goals as goal

pub returns : goal.returns
returns c = wide_served
