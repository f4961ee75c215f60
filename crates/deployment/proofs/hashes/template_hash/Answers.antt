use Rattle.std.proofs.Common.{ap, ◌∙◌, ◌++◌, take}
use Rattle.hex.specs.Hex.{encode_lower}
use Rattle.serde_json.specs.Written.{compact_text}
use Rattle.sha2.specs.Sha256.{sha256}
use Rattle.spec_reconcile.specs.Templates.{collision_digits}
use Rattle.deployment.proofs.HashDigits.{first_digits}
use Rattle.deployment.proofs.hashes.template_hash.Goals as goal

pub returns : goal.returns
returns c =
    c.in_ok-encode.ensures
    ∙ ap encode_lower (c.split_at.ensures.front ∙ ap (take 5) (c.digest-digest.ensures ∙ ap sha256 (c.as_bytes.ensures.value ∙ c.in_ok-text.ensures)))
    ∙ first_digits (sha256 (compact_text c.args.template.now.value ++ collision_digits c.args.collisions))
