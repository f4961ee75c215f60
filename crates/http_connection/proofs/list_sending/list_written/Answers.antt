use Rattle.std.proofs.Common.{sym, subst, arith}
use Rattle.http_connection.proofs.ListWriting.{list_begun_none, list_begun_more, list_over, list_written_more}
use Rattle.http_connection.specs.Lists.{IsListBegun, list_left}
use Rattle.http_connection.specs.Stopping.{device_in, has_stopped}
use Rattle.http_connection.proofs.list_sending.list_written.Goals as goal

pub loop-init : goal.loop-init
loop-init g c = list_begun_none (g.W.Write.contents (device_in c.args.writer.now)) c.args.listing

pub returns-in-None : goal.returns-in-None
returns-in-None g c =
    let before = g.W.Write.contents (device_in c.args.writer.now) in
    let mid = g.W.Write.contents (device_in c.loop.writer) in
    let after = g.W.Write.contents (device_in c.list_sent.new.writer) in
    let left = c.in-None.ensures in
    (left.0, (left.1.0, list_begun_more before mid after c.args.listing c.loop.listing left.1.0 c.loop.invariant left.1.1))

pub returns-then-listing-len : goal.returns-then-listing-len
returns-then-listing-len g c =
    let before = g.W.Write.contents (device_in c.args.writer.now) in
    let mid = g.W.Write.contents (device_in c.loop.writer) in
    let after = g.W.Write.contents (device_in c.list_sent.new.writer) in
    list_begun_more before mid after c.args.listing c.loop.listing (list_left c.in-Some.now) c.loop.invariant c.in-Some.ensures

pub returns-then-not-has_more : goal.returns-then-not-has_more
returns-then-not-has_more g c =
    let before = g.W.Write.contents (device_in c.args.writer.now) in
    let mid = g.W.Write.contents (device_in c.loop.writer) in
    let after = g.W.Write.contents (device_in c.list_sent.new.writer) in
    subst (IsListBegun before after c.args.listing) (list_over c.in-Some.now (omega arith) (sym c.if-not-has_more.ensures))
    (list_begun_more before mid after c.args.listing c.loop.listing (list_left c.in-Some.now) c.loop.invariant c.in-Some.ensures)

pub returns-in-Err : goal.returns-in-Err
returns-in-Err g c =
    let before = g.W.Write.contents (device_in c.args.writer.now) in
    let mid = g.W.Write.contents (device_in c.loop.writer) in
    let after = g.W.Write.contents (device_in c.list_sent.new.writer) in
    subst (IsListBegun before after c.args.listing) (sym c.in-Err.ensures)
    (list_begun_more before mid after c.args.listing c.loop.listing (list_left c.in-Some.now) c.loop.invariant c.in-Some.ensures)

pub loop-preserved : goal.loop-preserved
loop-preserved g c =
    let before = g.W.Write.contents (device_in c.args.writer.now) in
    let mid = g.W.Write.contents (device_in c.loop.writer) in
    let after = g.W.Write.contents (device_in c.list_sent.new.writer) in
    subst (IsListBegun before after c.args.listing) (sym c.in-Ok.ensures.0)
    (list_begun_more before mid after c.args.listing c.loop.listing (list_left c.in-Some.now) c.loop.invariant c.in-Some.ensures)

pub returns : goal.returns
returns g c =
    let before = g.W.Write.contents (device_in c.args.writer.now) in
    let mid = g.W.Write.contents (device_in c.loop.writer) in
    let after = g.W.Write.contents (device_in c.last_sent.new.writer) in
    list_written_more (has_stopped c.last_sent.new.writer) before mid after c.args.listing c.loop.listing c.last_sent.result c.loop.invariant c.last_sent.ensures
