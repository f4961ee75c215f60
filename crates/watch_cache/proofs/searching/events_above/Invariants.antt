use Rattle.std.proofs.Common.{◌≡◌, ◌≤◌, ◌++◌, map, drop, length}
use Rattle.spec_server.specs.Recorded.{events_recorded}
use Rattle.selector.specs.Views.{view_of}
use Rattle.revisions.specs.Events.{event_seen}
use Rattle.watch_cache.specs.Changes.{change_seen}
use Rattle.watch_cache.proofs.searching.events_above.Given as goal

-- the events so far, and then those of the changes that are left, are all
abbrev pub invariant-loop-place : goal.invariant-loop-place
invariant-loop-place l = record {
  few : length l.events.items ≤ l.max;
  told : map event_seen l.events.items ++ events_recorded (view_of l.view) (drop l.place (map change_seen l.changes.items))
      ≡ events_recorded (view_of l.view) (drop l.start (map change_seen l.changes.items));
}
