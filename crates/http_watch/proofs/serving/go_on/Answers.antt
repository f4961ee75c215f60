use Rattle.std.proofs.Common.{◌++◌, Ok, Err, subst}
use Rattle.selector.specs.Views.{view_of}
use Rattle.http_watch.proofs.Going.{left_opening, follows_after}
use Rattle.http_watch.specs.Opened.{opening_of}
use Rattle.http_watch.specs.Served.{WritesInParts}
use Rattle.http_watch.proofs.serving.go_on.Goals as goal

pub returns-in-Err : goal.returns-in-Err
returns-in-Err g c =
    let contents = g.W.Write.contents in
    let old = c.args.writer.now in
    let new = c.write_opening.new.writer in
    left_opening g.S.WatchSource.Watches (view_of c.args.view.now) c.args.bookmarks contents c.args.source.now old new (opening_of c.args.opened) c.args.opened.at.revision
    c.args.opened.at.idle c.in-Err.cut (subst (λ t. WritesInParts (t ++ c.args.opened.rest) contents old new (Err c.in-Err.cut)) c.deref.ensures.value c.in-Err.ensures)

pub returns-in-Ok-follow : goal.returns-in-Ok-follow
returns-in-Ok-follow g c =
    let contents = g.W.Write.contents in
    let old = c.args.writer.now in
    let mid = c.write_opening.new.writer in
    let put = subst (λ t. WritesInParts (t ++ c.args.opened.rest) contents old mid (Ok c.in-Ok.field-0)) c.deref.ensures.value c.in-Ok.ensures in
    follows_after g.S.WatchSource.Watches (view_of c.args.view.now) c.args.bookmarks contents c.args.source.now c.follow.new.source old mid c.follow.new.writer (opening_of c.args.opened)
    c.args.opened.at.revision c.args.opened.at.idle (Ok c.in-Ok-follow.field-0) put.1 c.in-Ok-follow.ensures

pub returns : goal.returns
returns g c =
    let contents = g.W.Write.contents in
    let old = c.args.writer.now in
    let mid = c.write_opening.new.writer in
    let put = subst (λ t. WritesInParts (t ++ c.args.opened.rest) contents old mid (Ok c.in-Ok.field-0)) c.deref.ensures.value c.in-Ok.ensures in
    follows_after g.S.WatchSource.Watches (view_of c.args.view.now) c.args.bookmarks contents c.args.source.now c.follow.new.source old mid c.follow.new.writer (opening_of c.args.opened)
    c.args.opened.at.revision c.args.opened.at.idle (Err c.in-Err-follow.cut) put.1 c.in-Err-follow.ensures
