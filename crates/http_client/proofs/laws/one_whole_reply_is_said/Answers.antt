use Rattle.http_client.proofs.Spoken.{one_whole}
use Rattle.http_client.proofs.laws.one_whole_reply_is_said.Goals as goal

pub returns : goal.returns
returns c = one_whole
