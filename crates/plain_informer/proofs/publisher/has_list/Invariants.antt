use Rattle.std.proofs.Common.{◌≡◌, drop}
use Rattle.std.specs.List.{list_any}
use Rattle.reflector.specs.Deltas.{deltas_of}
use Rattle.plain_informer.specs.Appended.{is_list}
use Rattle.plain_informer.proofs.publisher.has_list.Given as goal

-- one is among those still to be looked at where one is among all
abbrev pub invariant-loop-delta : goal.invariant-loop-delta
invariant-loop-delta l = list_any is_list (deltas_of (drop l.delta-index l.deltas)) ≡ list_any is_list (deltas_of l.deltas)
