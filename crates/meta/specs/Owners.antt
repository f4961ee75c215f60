-- An owner reference, by the bytes of its texts.
use Rattle.std.specs.Prelude.{option_map}
use Rattle.meta.specs.declared.owners.OwnerReference.{OwnerReference}
use Rattle.spec_api.specs.Metadata.{Owner}

abbrev pub owner_of : OwnerReference → Owner
owner_of o =
    record {
      api_version = option_map (λ s. s.now) o.api_version;
      kind = option_map (λ s. s.now) o.kind;
      name = option_map (λ s. s.now) o.name;
      uid = option_map (λ s. s.now) o.uid;
      is_controller = o.is_controller;
      blocks_deletion = o.blocks_deletion;
    }
