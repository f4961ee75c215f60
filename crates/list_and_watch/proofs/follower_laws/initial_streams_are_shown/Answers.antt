use Rattle.list_and_watch.proofs.Opened.{initial_streams_shown}
use Rattle.list_and_watch.proofs.follower_laws.initial_streams_are_shown.Goals as goal

pub returns : goal.returns
returns c = initial_streams_shown
