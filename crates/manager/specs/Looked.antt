-- At which maps the changes of a publish are looked at.
use Rattle.std.specs.Prelude.{◌≡◌, Option, Some, None}
use Rattle.informer.specs.Looked.{AreKnown}
use Rattle.informer.specs.declared.listers.Lister.{Lister}
use Rattle.spec_server.specs.Snapshots.{Snapshot}
use Rattle.object_keys.specs.declared.per_kind.PerKind.{PerKind}

-- the maps that were looked at before, if some were, and otherwise those at which the listers looked now
abbrev pub AreLookedAt : Option (PerKind Snapshot) → PerKind Lister → PerKind Snapshot → Type 0
AreLookedAt (Some before) ls maps = maps ≡ before
AreLookedAt None ls maps = AreKnown ls maps
