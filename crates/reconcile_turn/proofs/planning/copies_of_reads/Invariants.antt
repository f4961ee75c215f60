use Rattle.std.proofs.Common.{◌≡◌, ◌++◌, drop}
use Rattle.reconcile_types.specs.Hands.{reads_of}
use Rattle.reconcile_turn.proofs.planning.copies_of_reads.Given as goal

-- those so far and those still to come are all
abbrev pub invariant-loop-read : goal.invariant-loop-read
invariant-loop-read l = reads_of l.made.items ++ reads_of (drop l.read-index l.reads) ≡ reads_of l.reads
