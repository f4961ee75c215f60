use Rattle.std.proofs.Common.{◌+◌, codes, decimal, string_bytes}
use Rattle.serde_json.specs.Data.{string, put}
use Rattle.spec_api.specs.Metadata.{metadata_of}
use Rattle.spec_api.specs.NewObjects.{new_metadata}
use Rattle.verb_create.proofs.making.created.Goals as goal

pub returns : goal.returns
returns c =
    let key = c.args.key.now in
    let meta = put (codes "resourceVersion") (string (decimal (c.args.before + 1))) (new_metadata key.kind (c.args.before + 1) (string_bytes key.namespace) (string_bytes key.name) c.args.moment (metadata_of c.args.object.value)) in
    rw (c.in_ok-made.ensures.value, c.in_ok-set_text.ensures.rest, c.in_ok-set_metadata.ensures.rest, c.in_ok-set_text.ensures.metadata, c.in_ok-set_metadata.ensures.metadata, c.in_ok-draft.ensures.metadata, c.as_str.ensures.value, c.in_ok-digits.ensures.ok)
    (c.in_ok-draft.ensures.rest meta)
