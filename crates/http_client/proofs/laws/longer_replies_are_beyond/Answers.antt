use Rattle.http_client.proofs.Spoken.{longer_beyond}
use Rattle.http_client.proofs.laws.longer_replies_are_beyond.Goals as goal

pub returns : goal.returns
returns c = longer_beyond
