use Rattle.std.proofs.Common.{Ok, inr, refl}
use Rattle.spec_http.specs.Replies.{watch_head}
use Rattle.http_watch.proofs.LineFrames.{listing_is}
use Rattle.http_watch.specs.Given.{begun_as}
use Rattle.http_watch.specs.Opened.{opening_of}
use Rattle.http_watch.specs.Watches.{opening_with}
use Rattle.http_watch.proofs.opening.open_with.Goals as goal

pub returns-in-Ok-opened_with : goal.returns-in-Ok-opened_with
returns-in-Ok-opened_with g c =
    let h = c.in-Ok.ensures.begins in
    let l = begun_as c.in-Ok.begun in (
      opening_with l,
      (Ok l, h, refl),
      c.in-Ok-opened_with.ensures.revision,
      c.in-Ok-opened_with.ensures.idle,
      listing_is c.args.view.now.kind c.in-Ok.begun.revision c.in-Ok.begun.objects watch_head (opening_of c.in-Ok-opened_with.opened) c.in-Ok-opened_with.ensures.opening,
    )

pub returns-in-Err-opened_with : goal.returns-in-Err-opened_with
returns-in-Err-opened_with g c =
    let h = c.in-Ok.ensures.begins in
    let l = begun_as c.in-Ok.begun in
    inr (refl, opening_with l, (Ok l, h, refl))
