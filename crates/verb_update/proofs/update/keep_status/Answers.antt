use Rattle.std.proofs.Common.{codes, ap, ◌∙◌}
use Rattle.serde_json.specs.Find.{get_member}
use Rattle.spec_api.specs.Metadata.{metadata_of}
use Rattle.spec_api.specs.Values.{members_of}
use Rattle.verb_parts.proofs.Replacing.{metadata_of-as_stored}
use Rattle.verb_update.proofs.update.keep_status.Goals as goal

pub returns-clause-metadata : goal.returns-clause-metadata
returns-clause-metadata c =
    ap metadata_of c.in_ok-with_status.ensures.value ∙ metadata_of-as_stored (get_member (codes "status") (members_of c.args.existing.now.value)) c.args.object.value
