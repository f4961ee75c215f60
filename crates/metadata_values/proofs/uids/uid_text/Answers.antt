use Rattle.std.proofs.Common.{◌≡◌, ap, ◌∙◌}
use Rattle.std.proofs.lemmas.Result.{IfOk-weaker}
use Rattle.spec_api.specs.Uids.{uid_text}
use Rattle.uuid.specs.Text.{hyphenated_text, lower}
use Rattle.metadata_values.proofs.Hexadecimal.{uid-text}
use Rattle.metadata_values.proofs.uids.uid_text.Goals as goal

pub returns : goal.returns
returns c =
    let e : c.encode_lower-text.result.now ≡ uid_text c.args.cluster c.args.revision =
    c.encode_lower-text.ensures.text ∙ ap (hyphenated_text lower) (c.hyphenated.ensures ∙ c.from_u64_pair-uid.ensures) ∙ uid-text c.args.cluster c.args.revision c.requires.revision in
    IfOk-weaker c.from_str.result _ _ (λ t h. h ∙ e) c.from_str.ensures.ok
