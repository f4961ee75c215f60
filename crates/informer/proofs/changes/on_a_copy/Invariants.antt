use Rattle.std.proofs.Common.{◌≡◌, ◌++◌, map, drop}
use Rattle.spec_client_go.specs.Shifts.{all_shifts}
use Rattle.indexer.specs.Shifted.{shift_of}
use Rattle.reflector.specs.Deltas.{deltas_of}
use Rattle.informer.specs.SharedDeltas.{all_in}
use Rattle.informer.proofs.changes.on_a_copy.Given as goal

-- with what is still to be applied, it is all
abbrev pub invariant-loop-delta : goal.invariant-loop-delta
invariant-loop-delta l = map shift_of l.shifts.items ++ all_shifts l.objects.members (deltas_of (all_in (drop l.delta-index l.deltas))) ≡ all_shifts l.from.members (deltas_of (all_in l.deltas))
