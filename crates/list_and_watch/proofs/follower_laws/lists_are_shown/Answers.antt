use Rattle.list_and_watch.proofs.Followed.{lists_shown}
use Rattle.list_and_watch.proofs.follower_laws.lists_are_shown.Goals as goal

pub returns : goal.returns
returns c = lists_shown
