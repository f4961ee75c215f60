use Rattle.std.proofs.Common.{◌≡◌, drop}
use Rattle.std.specs.List.{list_all}
use Rattle.spec_reconcile.specs.Standings.{is_solid}
use Rattle.collector.proofs.standings.all_solid.Given as goal

abbrev pub invariant-loop-standing : goal.invariant-loop-standing
invariant-loop-standing l = list_all is_solid (drop l.standing-index l.standings) ≡ list_all is_solid l.standings
