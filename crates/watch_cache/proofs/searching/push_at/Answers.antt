use Rattle.std.proofs.Common.{◌≡◌, ◌+◌, ◌++◌, map, drop, Some, sym, ap, ◌∙◌, append_assoc}
use Rattle.std.specs.Prelude.{slice_get}
use Rattle.std.proofs.lemmas.Result.{on_ok_weaker}
use Rattle.std.specs.Option.{option_copied}
use Rattle.spec_server.specs.Recorded.{event_recorded, events_recorded}
use Rattle.selector.specs.Views.{view_of}
use Rattle.revisions.specs.Events.{event_seen}
use Rattle.watch_cache.specs.Changes.{change_seen}
use Rattle.watch_cache.proofs.Rising.{drop_at, not_none}
use Rattle.watch_cache.proofs.searching.push_at.Goals as goal

pub returns-in-Some-clause-event : goal.returns-in-Some-clause-event
returns-in-Some-clause-event c =
    let v = view_of c.args.view.now in
    let items = c.args.changes.now.items in
    let so_far = map event_seen c.args.events.now.items in
    let new = map event_seen c.push_event.new.events.items in
    let k = change_seen c.in-Some.change.now in
    let later = events_recorded v (drop (c.args.place + 1) (map change_seen items)) in
    let at : slice_get items c.args.place ≡ Some c.in-Some.change.now = sym c.get.ensures ∙ ap option_copied c.in-Some.is in
    let left : events_recorded v (drop c.args.place (map change_seen items)) ≡ event_recorded v k ++ later = ap (events_recorded v) (drop_at c.args.place items c.in-Some.change.now at) in
    on_ok_weaker c.push_event.result
    (λ (h : new ≡ so_far ++ event_recorded v k). ap (λ es. es ++ later) h ∙ append_assoc so_far (event_recorded v k) later ∙ sym (ap (λ es. so_far ++ es) left))
    c.push_event.ensures

pub returns-in-None-clause-event : goal.returns-in-None-clause-event
returns-in-None-clause-event c = absurd (not_none c.args.place c.args.changes.now.items c.requires (sym c.get.ensures ∙ ap option_copied c.in-None.is))
