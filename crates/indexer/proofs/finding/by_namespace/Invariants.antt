use Rattle.std.proofs.Common.{◌≡◌, ◌++◌, map, drop}
use Rattle.spec_api.specs.Kinds.{kinds}
use Rattle.reflector.specs.Seen.{members_seen}
use Rattle.reconcile_types.specs.Entries.{entry_of}
use Rattle.indexer.proofs.Namespaces.{of_kinds}
use Rattle.indexer.proofs.finding.by_namespace.Given as goal

-- what was found and what is still to be found is all
abbrev pub invariant-loop-kind : goal.invariant-loop-kind
invariant-loop-kind l =
    map entry_of l.found.items ++ of_kinds (drop l.kind-index kinds) l.namespace (members_seen l.objects) ≡ of_kinds kinds l.namespace (members_seen l.objects)
