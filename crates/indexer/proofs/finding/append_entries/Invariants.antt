use Rattle.std.proofs.Common.{◌≡◌, ◌++◌, map}
use Rattle.reconcile_types.specs.Entries.{entry_of}
use Rattle.reflector.specs.Seen.{members_seen}
use Rattle.indexer.proofs.finding.append_entries.Given as goal

-- what was added and what is still to be added is all
abbrev pub invariant-loop-entry : goal.invariant-loop-entry
invariant-loop-entry l =
    map entry_of l.found.items ++ members_seen (map (λ e. e.now) l.entry-iterator.rest.items)
    ≡ map entry_of l.initial.found.items ++ members_seen (map (λ e. e.now) l.initial.entry-iterator.rest.items)
