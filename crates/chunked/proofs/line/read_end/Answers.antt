use Rattle.chunked.proofs.Lines.{end_fails_second}
use Rattle.chunked.proofs.line.read_end.Goals as goal

pub returns-in-Err-clause-fault : goal.returns-in-Err-clause-fault
returns-in-Err-clause-fault g c =
    end_fails_second (g.R.Read.remaining c.args.device.now.device) (g.R.Read.remaining c.read_this.new.device.device) (g.R.Read.remaining c.read_this-2.new.device.device) c.in-Err.fault
    c.in_ok-read_this.ensures.text c.in-Err.ensures.fault
