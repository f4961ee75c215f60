use Rattle.std.proofs.Common.{Ok, inr, refl, sym, ◌∙◌, append-nil}
use Rattle.spec_http.specs.Replies.{watch_head}
use Rattle.http_watch.proofs.LineFrames.{made_is}
use Rattle.http_watch.specs.Given.{begun_as}
use Rattle.http_watch.specs.Watches.{opening_after}
use Rattle.http_watch.proofs.opening.open_after.Goals as goal

pub returns-in-Ok-head_text : goal.returns-in-Ok-head_text
returns-in-Ok-head_text g c =
    let h = c.in-Ok.ensures.begins in
    let l = begun_as c.in-Ok.begun in (
      opening_after l,
      (Ok l, h, refl),
      c.standing_at.ensures.revision,
      c.standing_at.ensures.idle,
      made_is c.in-Ok-head_text.text.items c.none.result watch_head c.in-Ok-head_text.ensures c.none.ensures ∙ sym (append-nil watch_head),
    )

pub returns : goal.returns
returns g c =
    let h = c.in-Ok.ensures.begins in
    let l = begun_as c.in-Ok.begun in
    inr (refl, opening_after l, (Ok l, h, refl))
