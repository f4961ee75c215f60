use Rattle.std.proofs.Common.{refl, subst, false}
use Rattle.http_connection.proofs.Writing.{begun_to, written_to}
use Rattle.http_connection.specs.declared.watching.Watching.{Watching}
use Rattle.http_connection.specs.Sending.{IsSent}
use Rattle.http_connection.specs.Stopping.{device_in, has_stopped}
use Rattle.http_connection.proofs.sending.watch_sent.Goals as goal

pub returns-in-To : goal.returns-in-To
returns-in-To g c =
    let before = g.W.Write.contents (device_in c.args.writer.now) in
    let after = g.W.Write.contents (device_in c.write_on.new.writer) in
    let w = c.args.watching in
    let n = c.in-To.taken in
    let u : Watching = record { view = w.view; bookmarks = w.bookmarks; at = w.at; at_once = w.at_once; out = w.out; taken = n; rest = w.rest; pieces = w.pieces; later = w.later; is_paused = false } in
    written_to before after w u n (subst (λ t. IsSent before after t w.taken n) c.deref.ensures.value c.in-To.ensures) refl

pub returns-in-Failed : goal.returns-in-Failed
returns-in-Failed g c =
    let before = g.W.Write.contents (device_in c.args.writer.now) in
    let after = g.W.Write.contents (device_in c.write_on.new.writer) in
    let w = c.args.watching in
    let s = c.in-Failed.ensures in
    (s.0, begun_to before after w s.1.0 (subst (λ t. IsSent before after t w.taken s.1.0) c.deref.ensures.value s.1.1))
