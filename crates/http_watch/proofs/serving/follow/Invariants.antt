use Rattle.http_watch.proofs.Going.{IsUnderWay}
use Rattle.selector.specs.Views.{view_of}
use Rattle.http_watch.proofs.serving.follow.Given as goal

-- the looks so far, and their frames, written
abbrev pub invariant-loop : goal.invariant-loop
invariant-loop g l =
    IsUnderWay g.S.WatchSource.Watches (view_of l.fn.view) l.fn.bookmarks g.W.Write.contents l.fn.source l.fn.from.revision l.fn.from.idle l.source l.at.revision l.at.idle l.fn.writer l.writer
