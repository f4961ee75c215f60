use Rattle.std.proofs.Common.{Ok, inr, refl}
use Rattle.spec_http.specs.Replies.{watch_head}
use Rattle.http_watch.proofs.LineFrames.{opening_is}
use Rattle.http_watch.specs.Given.{begun_as}
use Rattle.http_watch.specs.Opened.{opening_of}
use Rattle.http_watch.specs.Watches.{opening_closed}
use Rattle.http_watch.proofs.opening.open_closed.Goals as goal

pub returns-in-Ok-opened_with : goal.returns-in-Ok-opened_with
returns-in-Ok-opened_with g c =
    let h = c.in-Ok.ensures.begins in
    let l = begun_as c.in-Ok.begun in (
      opening_closed c.args.bookmarks l,
      (Ok l, h, refl),
      c.in-Ok-opened_with.ensures.revision,
      c.in-Ok-opened_with.ensures.idle,
      opening_is c.args.view.now.kind c.args.bookmarks c.in-Ok.begun.revision c.in-Ok.begun.objects watch_head (opening_of c.in-Ok-opened_with.opened) c.in-Ok-opened_with.ensures.opening,
    )

pub returns-in-Err-opened_with : goal.returns-in-Err-opened_with
returns-in-Err-opened_with g c =
    let h = c.in-Ok.ensures.begins in
    let l = begun_as c.in-Ok.begun in
    inr (refl, opening_closed c.args.bookmarks l, (Ok l, h, refl))
