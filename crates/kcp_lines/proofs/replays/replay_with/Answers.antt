use Rattle.chunked.specs.Devices.{device_of}
use Rattle.kcp_lines.proofs.Runs.{all-replayed, some-replayed, none-answered}
use Rattle.kcp_lines.proofs.replays.replay_with.Goals as goal

pub returns-in-Ok-clause-ok : goal.returns-in-Ok-clause-ok
returns-in-Ok-clause-ok g c =
    all-replayed c.run.result c.args.window c.in-Ok.session _ c.in-Ok.ensures (g.R.Read.remaining (device_of c.args.reader.now)) (g.W.Write.contents (device_of c.args.writer.now)) (g.W.Write.contents (device_of c.run.new.writer)) c.run.ensures.ok

pub returns-in-Ok-clause-ended : goal.returns-in-Ok-clause-ended
returns-in-Ok-clause-ended g c =
    some-replayed c.run.result c.args.window c.in-Ok.session _ c.in-Ok.ensures (g.R.Read.remaining (device_of c.args.reader.now)) (g.W.Write.contents (device_of c.args.writer.now)) (g.W.Write.contents (device_of c.run.new.writer))
    c.run.ensures.ended

pub returns-in-Err-clause-ended : goal.returns-in-Err-clause-ended
returns-in-Err-clause-ended g c = none-answered c.args.window (g.R.Read.remaining (device_of c.args.reader.now)) (g.W.Write.contents (device_of c.args.writer.now))
