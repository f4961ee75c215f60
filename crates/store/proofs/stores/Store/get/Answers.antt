use Rattle.std.proofs.Common.{◌∙◌, ap, option_map}
use Rattle.spec_api.specs.History.{found}
use Rattle.spec_server.specs.Snapshots.{Snapshot}
use Rattle.object_keys.specs.Keys.{key_of}
use Rattle.meta.specs.declared.stored.StoredObject.{StoredObject}
use Rattle.store.proofs.SeenMaps.{option_map-copied}
use Rattle.store.proofs.stores.Store.get.Goals as goal

pub returns : goal.returns
returns c =
    option_map-copied c.get.result ∙ ap (option_map (λ (o : StoredObject). o.value)) c.get.ensures.value ∙ c.self.invariant.indexed c.args.key.now
    ∙ ap (λ (s : Snapshot). found (key_of c.args.key.now) s.members) c.self.view_is
