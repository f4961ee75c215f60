use Rattle.std.proofs.Common.{◌≡◌, ◌++◌, map}
use Rattle.std.specs.Map.{keys_of}
use Rattle.reconcile_types.specs.Entries.{entry_of}
use Rattle.indexer.proofs.LinkWalks.{looked}
use Rattle.indexer.proofs.finding.by_owner.Given as goal

-- what was found and what is still to be looked up is all
abbrev pub invariant-loop-link : goal.invariant-loop-link
invariant-loop-link l =
    map entry_of l.found.items ++ looked l.objects (keys_of (map (λ e. e.now) l.link-iterator.rest.items)) ≡ looked l.objects (keys_of (map (λ e. e.now) l.initial.link-iterator.rest.items))
