use Rattle.chunked.specs.Devices.{device_of}
use Rattle.http_request_reader.specs.Openings.{opening_seen}
use Rattle.http_request_reader.proofs.ReadHeads.{body_tells}
use Rattle.http_request_reader.proofs.reading.after_opening.Goals as goal

pub returns-then-opening-follows-clause-tells : goal.returns-then-opening-follows-clause-tells
returns-then-opening-follows-clause-tells g c = body_tells (opening_seen c.args.opening) c.args.follows.now (g.R.Read.remaining (device_of c.args.reader.now)) c.with_body.result c.with_body.ensures.says
