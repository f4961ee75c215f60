use Rattle.std.proofs.Common.{◌≡◌, ◌<◌, ◌+◌, length, map, take, ap, sym, ◌∙◌, Ok, arith}
use Rattle.std.proofs.lemmas.List.{length-map, take-map}
use Rattle.spec_api.specs.Versions.{last_change}
use Rattle.spec_server.specs.Servers.{window_of}
use Rattle.spec_server.specs.Recorded.{recorded_since}
use Rattle.revisions.specs.Events.{event_seen}
use Rattle.selector.specs.Views.{view_of}
use Rattle.watch_cache.specs.Served.{Serves}
use Rattle.server.proofs.Watches.{given_part}
use Rattle.server.proofs.servers.Server.watch_from.Goals as goal

pub returns : goal.returns
returns c =
    let v = view_of c.args.view.now in
    let s = c.args.self.now in
    let n = c.args.max in
    let events = c.in_ok-events.events in
    let all = recorded_since (window_of v.kind s) s.snapshot.revision v c.args.after (n + 1) in
    let given : Serves (λ es. map event_seen es.items) all (Ok events) = c.in_ok-events.ensures in
    let more : n < length (map event_seen events.items) = omega (arith, c.if-len-max.false, c.len.ensures, length-map events.items event_seen) in
    let changes : map event_seen c.truncate.new.self.items ≡ take n (map event_seen events.items) = ap (map event_seen) c.truncate.ensures.items ∙ sym (take-map event_seen n events.items) in
    let stands : c.last_revision-stands.result ≡ last_change c.args.after (take n (map event_seen events.items)) =
    c.last_revision-stands.ensures ∙ ap (λ es. last_change c.args.after (map event_seen es)) c.deref.ensures.value ∙ ap (last_change c.args.after) changes
    in
    given_part (λ es. map event_seen es.items) all events s.snapshot.revision c.args.after n (record { events = c.truncate.new.self; stands = c.last_revision-stands.result }) given more changes stands
