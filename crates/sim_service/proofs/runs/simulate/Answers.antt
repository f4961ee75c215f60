use Rattle.chunked.specs.Devices.{device_of}
use Rattle.sim_service.proofs.Simulated.{all-simulated, some-simulated}
use Rattle.sim_service.proofs.runs.simulate.Goals as goal

pub returns-clause-ok : goal.returns-clause-ok
returns-clause-ok g c =
    all-simulated c.run.result _ _ c.new-simulation.ensures (g.R.Read.remaining (device_of c.args.reader.now)) (g.W.Write.contents (device_of c.args.writer.now)) (g.W.Write.contents (device_of c.run.new.writer)) c.run.ensures.ok

pub returns-clause-ended : goal.returns-clause-ended
returns-clause-ended g c =
    some-simulated c.run.result _ _ c.new-simulation.ensures (g.R.Read.remaining (device_of c.args.reader.now)) (g.W.Write.contents (device_of c.args.writer.now)) (g.W.Write.contents (device_of c.run.new.writer)) c.run.ensures.ended
