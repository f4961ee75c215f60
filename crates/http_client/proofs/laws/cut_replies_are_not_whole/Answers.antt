use Rattle.http_client.proofs.Spoken.{cut_none}
use Rattle.http_client.proofs.laws.cut_replies_are_not_whole.Goals as goal

pub returns : goal.returns
returns c = cut_none
