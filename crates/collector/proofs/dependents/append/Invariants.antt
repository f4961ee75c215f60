use Rattle.std.proofs.Common.{◌≡◌, ◌++◌, map}
use Rattle.reconcile_types.specs.Entries.{entry_of}
use Rattle.collector.proofs.dependents.append.Given as goal

-- those appended and those still to be appended are all
abbrev pub invariant-loop-entry : goal.invariant-loop-entry
invariant-loop-entry l = map entry_of l.found.items ++ map entry_of l.entry-iterator.rest.items ≡ map entry_of l.initial.found.items ++ map entry_of l.fn.more.items
