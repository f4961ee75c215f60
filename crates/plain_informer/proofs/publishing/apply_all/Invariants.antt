use Rattle.std.proofs.Common.{◌≡◌, ◌++◌, map, drop}
use Rattle.spec_client_go.specs.Informers.{all_applied}
use Rattle.spec_client_go.specs.Shifts.{all_shifts}
use Rattle.indexer.specs.Shifted.{shift_of}
use Rattle.reflector.specs.Deltas.{deltas_of}
use Rattle.plain_informer.proofs.publishing.apply_all.Given as goal

-- with what is still to be applied, it is all
abbrev pub invariant-loop-delta : goal.invariant-loop-delta
invariant-loop-delta l = record {
  applied : all_applied l.objects (deltas_of (drop l.delta-index l.deltas)) ≡ all_applied l.from (deltas_of l.deltas);
  shifted : map shift_of l.shifts.items ++ all_shifts l.objects.members (deltas_of (drop l.delta-index l.deltas)) ≡ all_shifts l.from.members (deltas_of l.deltas);
}
