use Rattle.std.proofs.Common.{rules, sym, subst, take, drop}
use Rattle.std.specs.Io.KnownBytes.{Appends}
use Rattle.http_connection.proofs.Writing.{sends_on}
use Rattle.http_connection.specs.Sending.{IsSent}
use Rattle.http_connection.specs.Stopping.{device_in}
use Rattle.http_connection.proofs.sending.write_on.Goals.{in-Ok, in-Err+else-has_stopped+else-ne}
use Rattle.http_connection.proofs.sending.write_on.Goals as goal

pub loop-preserved : goal.loop-preserved
loop-preserved g c =
    let before = g.W.Write.contents (device_in c.args.writer.now) in
    let mid = g.W.Write.contents (device_in c.loop.writer) in
    let after = g.W.Write.contents (device_in c.write.new.self) in
    elim c.match-write.branch [
      | in-Ok w ↦
          let more : Appends mid after (take w.in-Ok.n (drop c.loop.at c.args.bytes.now)) = subst (λ t. Appends mid after (take w.in-Ok.n t)) c.split_at.ensures.back w.in-Ok.ensures.bytes in
          subst (IsSent before after c.args.bytes.now c.args.taken) (sym w.at-is) (sends_on before mid after c.args.bytes.now c.args.taken c.loop.at w.in-Ok.n c.loop.invariant more)
      | in-Err+else-has_stopped+else-ne w ↦ search rules
    ]
