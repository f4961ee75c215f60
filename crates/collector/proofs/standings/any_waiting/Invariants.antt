use Rattle.std.proofs.Common.{◌≡◌, drop}
use Rattle.std.specs.List.{list_any}
use Rattle.spec_reconcile.specs.Standings.{is_waiting}
use Rattle.collector.proofs.standings.any_waiting.Given as goal

abbrev pub invariant-loop-standing : goal.invariant-loop-standing
invariant-loop-standing l = list_any is_waiting (drop l.standing-index l.standings) ≡ list_any is_waiting l.standings
