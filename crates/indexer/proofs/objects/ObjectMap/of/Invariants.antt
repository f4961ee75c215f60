use Rattle.std.proofs.Common.{◌≡◌, [], drop}
use Rattle.std.specs.Map.{keys_of}
use Rattle.spec_client_go.specs.Reflectors.{put_all}
use Rattle.indexer.specs.Links.{IsIndexOf}
use Rattle.reflector.specs.Seen.{members_seen}
use Rattle.indexer.proofs.objects.ObjectMap.of.Given as goal

-- the links are those of the objects, which with what is still to be put are all
abbrev pub invariant-loop-object : goal.invariant-loop-object
invariant-loop-object l = IsIndexOf (keys_of l.links) (members_seen l.objects) × (put_all (members_seen l.objects) (drop l.object-index l.listed) ≡ put_all [] l.listed)
