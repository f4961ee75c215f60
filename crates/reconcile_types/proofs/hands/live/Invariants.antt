use Rattle.std.proofs.Common.{◌≡◌, drop}
use Rattle.spec_client_go.specs.Hands.{live}
use Rattle.object_keys.specs.Keys.{key_of}
use Rattle.reconcile_types.specs.Hands.{reads_of}
use Rattle.reconcile_types.proofs.hands.live.Given as goal

abbrev pub invariant-loop-read : goal.invariant-loop-read
invariant-loop-read l = live (reads_of (drop l.read-index l.reads)) (key_of l.key) ≡ live (reads_of l.reads) (key_of l.key)
