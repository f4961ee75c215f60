use Rattle.std.proofs.Common.{◌≡◌, drop, map}
use Rattle.std.specs.List.{list_any}
use Rattle.spec_api.specs.Keys.{is_same_key}
use Rattle.object_keys.specs.Keys.{key_of}
use Rattle.mirror_example.proofs.mirror.is_among.Given as goal

abbrev pub invariant-loop-other : goal.invariant-loop-other
invariant-loop-other l = list_any (λ k. is_same_key k (key_of l.key)) (map key_of (drop l.other-index l.keys)) ≡ list_any (λ k. is_same_key k (key_of l.key)) (map key_of l.keys)
