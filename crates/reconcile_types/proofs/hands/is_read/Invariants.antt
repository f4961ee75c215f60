use Rattle.std.proofs.Common.{◌≡◌, drop}
use Rattle.spec_client_go.specs.Hands.{is_read}
use Rattle.object_keys.specs.Keys.{key_of}
use Rattle.reconcile_types.specs.Hands.{reads_of}
use Rattle.reconcile_types.proofs.hands.is_read.Given as goal

abbrev pub invariant-loop-read : goal.invariant-loop-read
invariant-loop-read l = is_read (reads_of (drop l.read-index l.reads)) (key_of l.key) ≡ is_read (reads_of l.reads) (key_of l.key)
