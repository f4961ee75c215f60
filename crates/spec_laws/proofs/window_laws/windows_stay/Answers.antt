use Rattle.spec_laws.proofs.FollowedWindows.{follows_still}
use Rattle.spec_laws.proofs.window_laws.windows_stay.Goals as goal

pub returns : goal.returns
returns c = follows_still
