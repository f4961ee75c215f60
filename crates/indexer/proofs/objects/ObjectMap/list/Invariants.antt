use Rattle.std.proofs.Common.{◌≡◌, ◌++◌, map}
use Rattle.reflector.specs.Seen.{members_seen}
use Rattle.reconcile_types.specs.Entries.{entry_of}
use Rattle.indexer.proofs.objects.ObjectMap.list.Given as goal

-- what was found and what is still to be found is all
abbrev pub invariant-loop-entry : goal.invariant-loop-entry
invariant-loop-entry l =
    map entry_of l.found.items ++ members_seen (map (λ e. e.now) l.entry-iterator.rest.items) ≡ members_seen (map (λ e. e.now) l.initial.entry-iterator.rest.items)
