use Rattle.std.proofs.Common.{◌≡◌, ◌++◌, drop, map}
use Rattle.meta.specs.Owners.{owner_of}
use Rattle.reconcile_types.specs.Hands.{reads_of}
use Rattle.spec_reconcile.specs.Standings.{standing}
use Rattle.collector.proofs.standings.standings.Given as goal

-- those found and those still to be found are all
abbrev pub invariant-loop-owner : goal.invariant-loop-owner
invariant-loop-owner l =
    l.found.items ++ map (standing (reads_of l.reads) l.namespace) (map owner_of (drop l.owner-index l.owners)) ≡ map (standing (reads_of l.reads) l.namespace) (map owner_of l.owners)
