use Rattle.std.proofs.Common.{inl, inr, refl}
use Rattle.http_connection.proofs.Writing.{written_none, written_more, written_as_far, begun_more, begun_so_far, still_made, watches_rest}
use Rattle.http_connection.specs.Stopping.{device_in, has_stopped}
use Rattle.http_connection.proofs.sending.watch_on.Goals as goal

pub loop-init : goal.loop-init
loop-init g c = written_none (g.W.Write.contents (device_in c.args.writer.now)) c.args.watching

pub returns-in-None : goal.returns-in-None
returns-in-None g c =
    let before = g.W.Write.contents (device_in c.args.writer.now) in
    let mid = g.W.Write.contents (device_in c.loop.writer) in
    let after = g.W.Write.contents (device_in c.watch_sent.new.writer) in
    (refl, inl (c.in-None.ensures.0, begun_more before mid after c.args.watching c.loop.watching c.loop.invariant c.in-None.ensures.1))

pub returns-then-watching-len : goal.returns-then-watching-len
returns-then-watching-len g c =
    let before = g.W.Write.contents (device_in c.args.writer.now) in
    let mid = g.W.Write.contents (device_in c.loop.writer) in
    let after = g.W.Write.contents (device_in c.watch_sent.new.writer) in
    let so_far = written_more before mid after c.args.watching c.loop.watching c.in-Some.now c.loop.invariant c.in-Some.ensures in
    watches_rest before after c.args.watching c.in-Some.now so_far (has_stopped c.watch_sent.new.writer) c.rested.result c.rested.ensures

pub returns-in-None-refilled : goal.returns-in-None-refilled
returns-in-None-refilled g c =
    let before = g.W.Write.contents (device_in c.args.writer.now) in
    let mid = g.W.Write.contents (device_in c.loop.writer) in
    let after = g.W.Write.contents (device_in c.watch_sent.new.writer) in
    let so_far = written_more before mid after c.args.watching c.loop.watching c.in-Some.now c.loop.invariant c.in-Some.ensures in
    (refl, inr (inr (still_made before after c.args.watching c.in-Some.now so_far c.in-None-refilled.ensures, begun_so_far before after c.args.watching c.in-Some.now so_far)))

pub loop-preserved : goal.loop-preserved
loop-preserved g c =
    let before = g.W.Write.contents (device_in c.args.writer.now) in
    let mid = g.W.Write.contents (device_in c.loop.writer) in
    let after = g.W.Write.contents (device_in c.watch_sent.new.writer) in
    let so_far = written_more before mid after c.args.watching c.loop.watching c.in-Some.now c.loop.invariant c.in-Some.ensures in
    written_as_far before after c.args.watching c.in-Some.now so_far c.in-Some-refilled.more c.in-Some-refilled.ensures
