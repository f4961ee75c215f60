use Rattle.std.proofs.Common.{◌≡◌, map}
use Rattle.object_keys.specs.Keys.{key_of}
use Rattle.reconcile_types.specs.Hands.{reads_of}
use Rattle.collector.specs.Asked.{all_added}
use Rattle.collector.proofs.reading.ask_all.Given as goal

-- those added, with those still to be added, are all
abbrev pub invariant-loop-key : goal.invariant-loop-key
invariant-loop-key l =
    all_added (reads_of l.reads) (map key_of l.asked.items) (map key_of l.key-iterator.rest.items) ≡ all_added (reads_of l.reads) (map key_of l.initial.asked.items) (map key_of l.fn.keys.items)
