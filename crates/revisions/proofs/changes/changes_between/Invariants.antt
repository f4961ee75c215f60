use Rattle.std.proofs.Common.{◌≡◌, ◌++◌, [], map, take, drop}
use Rattle.meta.specs.Writes.{write_of}
use Rattle.spec_api.specs.History.{after_all}
use Rattle.spec_api.specs.Events.{events_after}
use Rattle.selector.specs.Views.{view_of}
use Rattle.revisions.specs.Events.{event_seen}
use Rattle.revisions.specs.Seen.{seen}
use Rattle.revisions.proofs.changes.changes_between.Given as goal

-- the state is that after the writes so far, and the events so far and those of the writes left are all
abbrev pub invariant-loop-place : goal.invariant-loop-place
invariant-loop-place l = record {
  state : seen l.state.entries ≡ after_all [] (map write_of l.before ++ take l.place (map write_of l.after));
  told : map event_seen l.changes.items ++ events_after (view_of l.view) (map write_of l.before ++ take l.place (map write_of l.after)) (drop l.place (map write_of l.after))
      ≡ events_after (view_of l.view) (map write_of l.before) (map write_of l.after);
}
