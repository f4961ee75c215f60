use Rattle.spec_laws.proofs.FollowedWindows.{follows_recorded}
use Rattle.spec_laws.proofs.window_laws.windows_record.Goals as goal

pub returns : goal.returns
returns c = follows_recorded
