use Rattle.std.proofs.Common.{◌≡◌, ◌++◌}
use Rattle.informer.specs.SharedDeltas.{all_in}
use Rattle.informer.proofs.shared_deltas.share.Given as goal

-- those that are shared and those still to be are all
abbrev pub invariant-loop-delta : goal.invariant-loop-delta
invariant-loop-delta l = all_in l.shared.items ++ l.delta-iterator.rest.items ≡ l.fn.deltas.items
