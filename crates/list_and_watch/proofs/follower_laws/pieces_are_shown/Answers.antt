use Rattle.list_and_watch.proofs.Followed.{pieces_shown}
use Rattle.list_and_watch.proofs.follower_laws.pieces_are_shown.Goals as goal

pub returns : goal.returns
returns c = pieces_shown
