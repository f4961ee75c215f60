use Rattle.spec_laws.proofs.FollowedWindows.{follows_new}
use Rattle.spec_laws.proofs.window_laws.windows_open.Goals as goal

pub returns : goal.returns
returns c = follows_new
