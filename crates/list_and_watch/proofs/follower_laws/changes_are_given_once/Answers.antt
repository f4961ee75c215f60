use Rattle.list_and_watch.proofs.Given.{given_once}
use Rattle.list_and_watch.proofs.follower_laws.changes_are_given_once.Goals as goal

pub returns : goal.returns
returns c = given_once
