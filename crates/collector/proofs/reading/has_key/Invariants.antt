use Rattle.std.proofs.Common.{◌≡◌, drop, map}
use Rattle.std.specs.List.{list_any}
use Rattle.spec_api.specs.Keys.{is_same_key}
use Rattle.object_keys.specs.Keys.{key_of}
use Rattle.collector.proofs.reading.has_key.Given as goal

abbrev pub invariant-loop-key : goal.invariant-loop-key
invariant-loop-key l = list_any (λ k. is_same_key k (key_of l.wanted)) (map key_of (drop l.key-index l.keys)) ≡ list_any (λ k. is_same_key k (key_of l.wanted)) (map key_of l.keys)
