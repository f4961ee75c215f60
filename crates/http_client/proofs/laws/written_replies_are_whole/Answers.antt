use Rattle.http_client.proofs.Spoken.{written_whole}
use Rattle.http_client.proofs.laws.written_replies_are_whole.Goals as goal

pub returns : goal.returns
returns c = written_whole
