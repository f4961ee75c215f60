use Rattle.std.proofs.Common.{◌≡◌, take, map}
use Rattle.serde_json.specs.View.{view}
use Rattle.spec_api.specs.Metadata.{owner}
use Rattle.meta.specs.Owners.{owner_of}
use Rattle.meta.proofs.owners.owners_in.Given as goal

abbrev pub invariant-loop-item : goal.invariant-loop-item
invariant-loop-item l = map owner_of l.found.items ≡ map owner (map view (take l.item-index l.items.items))
