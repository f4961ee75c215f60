use Rattle.spec_api.specs.Replies.{shown, watch_reply}
use Rattle.spec_api.specs.WatchReplies.{opening_lines}
use Rattle.spec_api.specs.declared.versions.Start.TheVariants.{Streamed}
use Rattle.spec_line_protocol.specs.Lines.{reply_text}
use Rattle.selector.specs.Views.{view_of}
use Rattle.spec_server.specs.Servers.{watch_served}
use Rattle.line_session.proofs.Served.{stream-given, stream-refused, as-given}
use Rattle.line_session.proofs.sessions.Session.show_initial.Goals as goal

pub returns-in-Ok : goal.returns-in-Ok
returns-in-Ok c =
    let s = c.args.self.now.server in
    let v = view_of c.args.view.now in
    let i = c.in-Ok.initial in
    as-given (λ l. l.items) c.stream_opening.result (reply_text (shown v.kind (opening_lines c.args.bookmarks i.revision i.objects)))
    (reply_text (watch_reply v.kind (watch_served s v (record { start = Streamed c.args.least; bookmarks = c.args.bookmarks }))))
    (stream-given s v c.args.bookmarks c.args.least i c.in-Ok.ensures.events c.in-Ok.ensures.members c.in-Ok.ensures.revision) c.stream_opening.ensures

pub returns-in-Err : goal.returns-in-Err
returns-in-Err c =
    stream-refused c.args.self.now.server (view_of c.args.view.now) c.args.bookmarks c.args.least c.in-Err.fault (λ l. l.items) c.fault_line.result c.in-Err.ensures.events c.fault_line.ensures.text c.fault_line.ensures.memory
