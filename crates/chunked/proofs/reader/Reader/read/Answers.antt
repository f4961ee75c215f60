use Rattle.std.proofs.Common.{take}
use Rattle.chunked.proofs.Passing.{reaches_then, stops_then}
use Rattle.chunked.proofs.reader.Reader.read.Goals as goal

pub returns-in-Ok-take-clause-bytes : goal.returns-in-Ok-take-clause-bytes
returns-in-Ok-take-clause-bytes g c =
    reaches_then (g.R.Read.remaining c.args.self.now.device.device) (g.R.Read.remaining c.ready.new.device.device) (g.R.Read.remaining c.take.new.self.device.device)
    c.args.self.now.place c.in-Ok.place c.take.new.self.place (take c.in-Ok-take.n c.take.new.buf) c.in-Ok.ensures.place c.in-Ok-take.ensures.bytes

pub returns-in-Err-take-clause-reason : goal.returns-in-Err-take-clause-reason
returns-in-Err-take-clause-reason g c =
    λ none. stops_then c.args.self.now.place c.in-Ok.place c.in-Ok.ensures.place.0
    (g.R.Read.remaining c.args.self.now.device.device) (g.R.Read.remaining c.ready.new.device.device) (g.R.Read.remaining c.take.new.self.device.device)
    c.in-Err-take.fault c.in-Ok.ensures.place.1 c.in-Ok.ensures.place.2 c.in-Err-take.ensures.fault
