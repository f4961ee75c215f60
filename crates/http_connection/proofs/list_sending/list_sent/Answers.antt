use Rattle.std.proofs.Common.{◌++◌, drop, subst}
use Rattle.http_connection.proofs.ListWriting.{list_sent_to}
use Rattle.http_connection.specs.Sending.{IsSent}
use Rattle.http_connection.specs.Stopping.{device_in, has_stopped}
use Rattle.http_connection.proofs.list_sending.list_sent.Goals as goal

pub returns-in-To : goal.returns-in-To
returns-in-To g c =
    let before = g.W.Write.contents (device_in c.args.writer.now) in
    let after = g.W.Write.contents (device_in c.write_on.new.writer) in
    let l = c.args.listing in
    let n = c.in-To.taken in
    list_sent_to before after l n (subst (λ t. IsSent before after t l.taken n) c.deref.ensures.value c.in-To.ensures)

pub returns-in-Failed : goal.returns-in-Failed
returns-in-Failed g c =
    let before = g.W.Write.contents (device_in c.args.writer.now) in
    let after = g.W.Write.contents (device_in c.write_on.new.writer) in
    let l = c.args.listing in
    let s = c.in-Failed.ensures in
    (s.0, (drop s.1.0 l.out.items ++ l.rest, list_sent_to before after l s.1.0 (subst (λ t. IsSent before after t l.taken s.1.0) c.deref.ensures.value s.1.1)))
