use Rattle.std.proofs.Common.{sym, subst}
use Rattle.chunked.specs.Reading.{Stops}
use Rattle.chunked.proofs.reader.Reader.take.Goals as goal

pub returns-in-Err-clause-fault : goal.returns-in-Err-clause-fault
returns-in-Err-clause-fault g c =
    subst (λ p. Stops p (g.R.Read.remaining c.args.self.now.device.device) (g.R.Read.remaining c.read_bytes.new.device.device) c.in-Err.fault) (sym c.in-Within.is) c.in-Err.ensures.fault
