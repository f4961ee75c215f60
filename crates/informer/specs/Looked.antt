-- What listers that look for copies see, and what they then know.
use Rattle.std.specs.Prelude.{◌≡◌}
use Rattle.spec_client_go.specs.Informers.{nothing, all_applied}
use Rattle.spec_server.specs.Snapshots.{Snapshot}
use Rattle.reflector.specs.Deltas.{deltas_of}
use Rattle.object_keys.specs.PerKind.{of_kind, EachKind}
use Rattle.object_keys.specs.declared.per_kind.PerKind.{PerKind}
use Rattle.informer.specs.Knowing.{StartsWithAll}
use Rattle.informer.specs.Listers.{known, known_last}
use Rattle.informer.specs.Published.{all_of}
use Rattle.informer.specs.declared.listers.Lister.{Lister}

-- the map that was published after the batches of deltas of which a lister knows last
abbrev pub map_known : Lister → Snapshot
map_known l = all_applied nothing (deltas_of (all_of (known_last l)))

-- what a lister knows once it was to look: batches that begin with all that it knew before, or just this, where nothing is published any more
pub data KnowsMore (l m : Lister) : Type 0 where
  has_seen : StartsWithAll (known_last m) (known l) → KnowsMore l m
  as_before : known m ≡ known l → KnowsMore l m

-- the maps are those that were published when the listers looked last
abbrev pub AreKnown : PerKind Lister → PerKind Snapshot → Type 0
AreKnown ls maps = EachKind (λ k. of_kind k maps ≡ map_known (of_kind k ls))
