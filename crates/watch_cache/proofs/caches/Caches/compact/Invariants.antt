use Rattle.std.proofs.Common.{◌≡◌, ◌++◌, map, take, drop}
use Rattle.spec_server.specs.Recorded.{compacted_to}
use Rattle.watch_cache.proofs.caches.Caches.compact.Given as goal

-- the floors of the caches so far are moved
abbrev pub invariant-loop-place : goal.invariant-loop-place
invariant-loop-place l = l.self-inside.caches.items ≡ map (λ w. compacted_to w l.revision) (take l.place l.initial.self-inside.caches.items) ++ drop l.place l.initial.self-inside.caches.items
