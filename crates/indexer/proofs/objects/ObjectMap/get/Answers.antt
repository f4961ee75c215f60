use Rattle.std.proofs.Common.{◌∙◌, ap, option_map}
use Rattle.spec_api.specs.History.{Entries, found}
use Rattle.object_keys.specs.Keys.{key_of}
use Rattle.reflector.proofs.SeenMaps.{data_of}
use Rattle.indexer.proofs.SeenMaps.{seen-lookup, option_map-copied}
use Rattle.indexer.proofs.objects.ObjectMap.get.Goals as goal

pub returns : goal.returns
returns c =
    option_map-copied c.get.result ∙ ap (option_map data_of) c.get.ensures ∙ seen-lookup c.self.inside.objects c.args.key.now
    ∙ ap (λ (ms : Entries). found (key_of c.args.key.now) ms) c.self.view_is
