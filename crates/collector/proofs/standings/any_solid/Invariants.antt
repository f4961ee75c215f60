use Rattle.std.proofs.Common.{◌≡◌, drop}
use Rattle.std.specs.List.{list_any}
use Rattle.spec_reconcile.specs.Standings.{is_solid}
use Rattle.collector.proofs.standings.any_solid.Given as goal

abbrev pub invariant-loop-standing : goal.invariant-loop-standing
invariant-loop-standing l = list_any is_solid (drop l.standing-index l.standings) ≡ list_any is_solid l.standings
