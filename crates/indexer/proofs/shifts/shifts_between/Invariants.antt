use Rattle.std.proofs.Common.{◌≡◌, ◌++◌, map, filter}
use Rattle.serde_json.specs.Data.{Data}
use Rattle.spec_api.specs.Keys.{Key as Name}
use Rattle.spec_client_go.specs.Shifts.{is_change, shift_at}
use Rattle.reflector.specs.Seen.{members_seen}
use Rattle.indexer.specs.Shifted.{shift_of}
use Rattle.indexer.proofs.shifts.shifts_between.Given as goal

-- what was found and what is still to be found is all
abbrev pub invariant-loop-entry : goal.invariant-loop-entry
invariant-loop-entry l =
    map shift_of l.shifts.items ++ filter is_change (map (λ (e : Name × Data). shift_at l.old l.new e.0) (members_seen (map (λ e. e.now) l.entry-iterator.rest.items)))
    ≡ filter is_change (map (λ (e : Name × Data). shift_at l.old l.new e.0) (members_seen (map (λ e. e.now) l.initial.entry-iterator.rest.items)))
