use Rattle.std.proofs.Common.{◌≡◌, ◌++◌, map, filter_map}
use Rattle.spec_api.specs.Metadata.{owners}
use Rattle.object_keys.specs.Keys.{key_of}
use Rattle.meta.specs.Owners.{owner_of}
use Rattle.indexer.specs.Links.{link_of, link_to}
use Rattle.indexer.proofs.links.links_of.Given as goal

-- those made and those still to be made are all
abbrev pub invariant-loop-owner : goal.invariant-loop-owner
invariant-loop-owner l = map link_of l.links.items ++ filter_map (link_to (key_of l.key)) (map owner_of l.owner-iterator.rest.items) ≡ filter_map (link_to (key_of l.key)) (owners l.object.value)
