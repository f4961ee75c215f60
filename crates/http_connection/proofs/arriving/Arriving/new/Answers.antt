use Rattle.http_connection.proofs.Reading.{waits_at_first}
use Rattle.http_connection.proofs.arriving.Arriving.new.Goals as goal

pub returns : goal.returns
returns c = (c.new.ensures.items, waits_at_first)
