use Rattle.std.proofs.Common.{rules, Some, refl, false}
use Rattle.http_connection.specs.declared.watching.Watching.{Watching}
use Rattle.http_connection.proofs.answering.opened.Goals as goal

pub returns : goal.returns
returns c =
    let w : Watching = record {
      view = c.args.watch.view;
      bookmarks = c.args.watch.bookmarks;
      at = Some c.args.watch.opened.at;
      at_once = c.len.result;
      out = c.args.watch.opened.text;
      taken = 0;
      rest = c.args.watch.opened.rest;
      pieces = 0;
      is_paused = false;
      later = c.new.result;
    } in
    (w, refl, refl, refl, refl, refl, refl, refl, c.new.ensures.items, search rules)
