use Rattle.std.proofs.Common.{rules, ◌≤◌, ◌<◌, Ok, Err}
use Rattle.selector.specs.Views.{view_of}
use Rattle.http_watch.proofs.Going.{starts, went_on, idles_out, ends_so, left_within, left_at}
use Rattle.http_watch.specs.Watches.{most_idle}
use Rattle.http_watch.proofs.serving.follow.Goals as goal

pub loop-init : goal.loop-init
loop-init g c = starts g.S.WatchSource.Watches (view_of c.args.view.now) c.args.bookmarks g.W.Write.contents c.args.source.now c.args.from.revision c.args.from.idle c.args.writer.now c.requires.sound

pub returns-in-Ok : goal.returns-in-Ok
returns-in-Ok g c =
    let over : most_idle ≤ c.loop.at.idle = search rules in
    idles_out g.S.WatchSource.Watches (view_of c.args.view.now) c.args.bookmarks g.W.Write.contents c.args.source.now c.args.from.revision c.args.from.idle c.loop.source c.loop.at.revision
    c.loop.at.idle c.args.writer.now c.loop.writer c.finish.new.writer (Ok c.in-Ok.field-0) c.loop.invariant over c.in-Ok.ensures

pub returns-in-Err : goal.returns-in-Err
returns-in-Err g c =
    let over : most_idle ≤ c.loop.at.idle = search rules in
    idles_out g.S.WatchSource.Watches (view_of c.args.view.now) c.args.bookmarks g.W.Write.contents c.args.source.now c.args.from.revision c.args.from.idle c.loop.source c.loop.at.revision
    c.loop.at.idle c.args.writer.now c.loop.writer c.finish.new.writer (Err c.in-Err.cut) c.loop.invariant over c.in-Err.ensures

pub returns : goal.returns
returns g c =
    left_at g.S.WatchSource.Watches (view_of c.args.view.now) c.args.bookmarks g.W.Write.contents c.args.source.now c.args.from.revision c.args.from.idle c.loop.source c.loop.at.revision
    c.loop.at.idle c.args.writer.now c.loop.writer c.loop.invariant

pub loop-preserved : goal.loop-preserved
loop-preserved g c =
    let short : c.loop.at.idle < most_idle = search rules in
    went_on g.S.WatchSource.Watches (view_of c.args.view.now) c.args.bookmarks g.W.Write.contents c.args.source.now c.args.from.revision c.args.from.idle c.loop.source c.look.new.source
    c.loop.at c.in-Ok-Some.next c.args.writer.now c.loop.writer c.look.new.writer c.loop.invariant short (rw c.in-Ok-Some.field-0-is at c.in-Ok-Some.ensures)

pub returns-in-Ok-finish : goal.returns-in-Ok-finish
returns-in-Ok-finish g c =
    let short : c.loop.at.idle < most_idle = search rules in
    ends_so g.S.WatchSource.Watches (view_of c.args.view.now) c.args.bookmarks g.W.Write.contents c.args.source.now c.args.from.revision c.args.from.idle c.loop.source c.look.new.source
    c.loop.at c.args.writer.now c.loop.writer c.look.new.writer c.finish-in-Ok-None.new.writer (Ok c.in-Ok-finish.field-0) c.loop.invariant short
    (rw c.in-Ok-None.field-0-is at c.in-Ok-None.ensures) c.in-Ok-finish.ensures

pub returns-in-Err-finish : goal.returns-in-Err-finish
returns-in-Err-finish g c =
    let short : c.loop.at.idle < most_idle = search rules in
    ends_so g.S.WatchSource.Watches (view_of c.args.view.now) c.args.bookmarks g.W.Write.contents c.args.source.now c.args.from.revision c.args.from.idle c.loop.source c.look.new.source
    c.loop.at c.args.writer.now c.loop.writer c.look.new.writer c.finish-in-Ok-None.new.writer (Err c.in-Err-finish.cut) c.loop.invariant short
    (rw c.in-Ok-None.field-0-is at c.in-Ok-None.ensures) c.in-Err-finish.ensures

pub returns-in-Err-look : goal.returns-in-Err-look
returns-in-Err-look g c =
    left_within g.S.WatchSource.Watches (view_of c.args.view.now) c.args.bookmarks g.W.Write.contents c.args.source.now c.args.from.revision c.args.from.idle c.loop.source c.look.new.source
    c.loop.at c.args.writer.now c.loop.writer c.look.new.writer c.in-Err-look.cut c.loop.invariant c.in-Err-look.ensures
