use Rattle.std.proofs.Common.{◌++◌, Ok, inr, refl, sym, ap, ◌∙◌}
use Rattle.spec_http.specs.Replies.{watch_head, frames_text}
use Rattle.revisions.specs.Watches.{watched_of}
use Rattle.http_watch.proofs.LineFrames.{made_is}
use Rattle.http_watch.specs.Watches.{opening_at, idle_after}
use Rattle.http_watch.proofs.opening.open_at.Goals as goal

pub returns-in-Ok-first_text : goal.returns-in-Ok-first_text
returns-in-Ok-first_text g c =
    let w = watched_of c.in-Ok.watched in (
      opening_at c.args.bookmarks c.args.from w,
      (Ok w, c.in-Ok.ensures.watches, refl),
      refl,
      c.idle_after-idle.ensures ∙ ap (idle_after 0) (sym c.last_bookmark-bookmark.ensures),
      made_is c.in-Ok-first_text.text.items c.none.result _ c.in-Ok-first_text.ensures c.none.ensures ∙ ap (λ ls. watch_head ++ frames_text c.args.view.now.kind ls) (sym c.last_bookmark-bookmark.ensures),
    )

pub returns : goal.returns
returns g c =
    let w = watched_of c.in-Ok.watched in
    inr (refl, opening_at c.args.bookmarks c.args.from w, (Ok w, c.in-Ok.ensures.watches, refl))
