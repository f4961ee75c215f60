-- What a worker looks at.
use Rattle.std.specs.Prelude.{◌≡◌, Option, Some, None, Result, Ok, Err}
use Rattle.spec_api.specs.declared.kinds.Kind.{Kind}
use Rattle.spec_server.specs.Snapshots.{Snapshot}
use Rattle.object_keys.specs.PerKind.{of_kind, with_kind}
use Rattle.informer.specs.Looked.{map_known, KnowsMore}
use Rattle.informer.specs.declared.kind_listers.Listers.{Listers}

-- what a look shows: nothing where nothing is published any more, or memory ran out
abbrev pub shown_by : {E : Type 0} → Result (Option Snapshot) E → Option Snapshot
shown_by (Ok found) = found
shown_by (Err e) = None

-- the lister of a kind has looked, and no other has
abbrev pub HasLooked : Kind → Listers → Listers → Type 0
HasLooked k ls ms = KnowsMore (of_kind k ls.listers) (of_kind k ms.listers) × (ms.listers ≡ with_kind k (of_kind k ms.listers) ls.listers)

-- what is shown of a kind is what was published of it after batches of deltas of which the lister of this kind then knows: these begin with all that it
-- knew before
abbrev pub Shows : Listers → Kind → Option Snapshot → Listers → Type 0
Shows ls k None ms = HasLooked k ls ms
Shows ls k (Some s) ms = (s ≡ map_known (of_kind k ms.listers)) × HasLooked k ls ms
