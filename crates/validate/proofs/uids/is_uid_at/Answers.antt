use Rattle.std.proofs.Common.{◌≡◌, ap, ◌∙◌}
use Rattle.std.specs.Str.{bytes_eq}
use Rattle.spec_api.specs.Uids.{uid_text}
use Rattle.uuid.specs.Text.{hyphenated_text, lower}
use Rattle.metadata_values.proofs.Hexadecimal.{uid-text}
use Rattle.validate.proofs.uids.is_uid_at.Goals as goal

pub returns : goal.returns
returns c =
    let e : c.encode_lower-printed.result.now ≡ uid_text 0 c.args.revision =
    c.encode_lower-printed.ensures.text ∙ ap (hyphenated_text lower) (c.hyphenated.ensures ∙ c.from_u64_pair-uid.ensures) ∙ uid-text 0 c.args.revision c.requires in
    c.eq.ensures ∙ ap (bytes_eq c.args.text.now) e
