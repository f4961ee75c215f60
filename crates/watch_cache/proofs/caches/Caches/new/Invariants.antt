use Rattle.std.proofs.Common.{◌≡◌, map, take}
use Rattle.spec_server.specs.Recorded.{opened}
use Rattle.watch_cache.proofs.caches.Caches.new.Given as goal

-- there is a cache of each kind so far
abbrev pub invariant-loop-kind : goal.invariant-loop-kind
invariant-loop-kind l = l.caches.items ≡ map (λ k. opened k l.window) (take l.kind-index l.kind-items)
