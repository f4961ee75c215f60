use Rattle.std.proofs.Common.{Err}
use Rattle.selector.specs.Views.{view_of}
use Rattle.http_watch.proofs.Going.{opened_follows}
use Rattle.http_watch.specs.Opened.{opening_of}
use Rattle.http_watch.specs.Watches.{opening_text}
use Rattle.http_watch.proofs.serving.serve_watch.Goals as goal

pub returns-in-Err-go_on : goal.returns-in-Err-go_on
returns-in-Err-go_on g c =
    let h = c.in-Ok.ensures in (
      h.0,
      c.open.new.source,
      h.1,
      opened_follows g.S.WatchSource.Watches (view_of c.args.view.now) c.args.bookmarks g.W.Write.contents c.open.new.source c.go_on.new.source c.args.writer.now c.go_on.new.writer
          (opening_of c.in-Ok.opened) (opening_text c.args.view.now.kind h.0) c.in-Ok.opened.at.revision c.in-Ok.opened.at.idle h.0.stands h.0.idle (Err c.in-Err-go_on.cut) h.2 h.3 h.4
          c.in-Err-go_on.ensures,
    )
