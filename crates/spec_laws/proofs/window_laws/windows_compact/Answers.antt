use Rattle.spec_laws.proofs.FollowedWindows.{follows_compacted}
use Rattle.spec_laws.proofs.window_laws.windows_compact.Goals as goal

pub returns : goal.returns
returns c = follows_compacted
