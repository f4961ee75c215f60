use Rattle.std.proofs.Common.{◌≡◌, ◌-◌, ◌∙◌, length, take, drop, refl, arith, length-drop, length-take-le}
use Rattle.chunked.specs.Devices.{device_of}
use Rattle.http_request_reader.proofs.Filling.{filled_at_first, filled_more, same_length}
use Rattle.http_request_reader.proofs.body.fill.Goals as goal

pub loop-filled-init : goal.loop-filled-init
loop-filled-init g c = (filled_at_first c.args.body.now c.args.front (g.R.Read.remaining (device_of c.args.reader.now)) c.requires.front, refl, c.requires.sound)

pub loop-filled-preserved : goal.loop-filled-preserved
loop-filled-preserved g c =
    let body = c.loop-filled.body in
    let buf = c.receive.new.buf in
    let place = c.loop-filled.filled in
    let so_far = c.loop-filled.invariant.0 in
    let long : length buf ≡ length body - place = omega (arith, c.in-Ok.ensures.len, length-take-le (length body - place) (drop place body) (omega (arith, length-drop place body)), length-drop place body) in (
      filled_more (take c.args.front c.args.body.now) body buf place c.in-Ok.n (g.R.Read.remaining (device_of c.args.reader.now)) (g.R.Read.remaining (device_of c.loop-filled.reader))
          (g.R.Read.remaining (device_of c.receive.new.self)) so_far c.in-Ok.ensures.bound long c.in-Ok.ensures.read,
      same_length body buf place so_far.3 long ∙ c.loop-filled.invariant.1,
      c.in-Ok.ensures.sound,
    )
