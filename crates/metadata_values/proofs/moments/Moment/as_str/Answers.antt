use Rattle.std.proofs.Common.{◌≡◌, true, codes, refl, IsUtf8, IsAscii, rules}
use Rattle.std.proofs.lemmas.Str.{IsUtf8-from_ascii}
use Rattle.spec_api.specs.Moments.{is_moment}
use Rattle.metadata_values.proofs.Forms.{moment-form, has_form-ascii}
use Rattle.metadata_values.proofs.moments.Moment.as_str.Goals as goal

pub unwrap-requires : goal.unwrap-requires
unwrap-requires c =
    let t = c.as_bytes.result.now in
    let moment : is_moment t ≡ true = search rules in
    let ascii : IsAscii t = has_form-ascii (codes "0000-00-00T00:00:00Z") t refl (moment-form t moment) in
    let text : IsUtf8 t = IsUtf8-from_ascii t ascii in
    search (rules, text)
