use Rattle.std.proofs.Common.{◌≡◌, OnOk, codes, refl, subst, string_bytes}
use Rattle.serde_json.specs.Data.{string, put}
use Rattle.spec_api.specs.NewObjects.{new_metadata}
use Rattle.verb_create.proofs.making.set_metadata.Goals as goal

pub returns-clause-metadata : goal.returns-clause-metadata
returns-clause-metadata c =
    let e : put (codes "uid") (string c.as_str-4.result.now) c.set_text-3.new.self.metadata ≡ new_metadata c.args.key.now.kind c.args.revision (string_bytes c.args.key.now.namespace) (string_bytes c.args.key.now.name) c.args.moment c.args.draft.now.metadata =
    rw (c.in_ok-set_text-3.ensures.metadata, c.in_ok-set_text-2.ensures.metadata, c.in_ok-set_text.ensures.metadata, c.in_ok-set_generation.ensures.metadata, c.remove.ensures.metadata, c.as_str.ensures.value, c.as_str-2.ensures.value, c.as_str-3.ensures.text, c.as_str-4.ensures.value, c.in_ok-uid.ensures) refl in
    subst (λ m. OnOk c.set_text-4.result (c.set_text-4.new.self.metadata ≡ m)) e c.set_text-4.ensures.metadata
