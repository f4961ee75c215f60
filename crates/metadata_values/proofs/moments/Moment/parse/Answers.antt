use Rattle.std.proofs.Common.{◌≡◌, true, codes, sym, rules}
use Rattle.spec_api.specs.Moments.{is_moment}
use Rattle.metadata_values.proofs.Forms.{moment-form, has_form-length}
use Rattle.metadata_values.proofs.moments.Moment.parse.Goals as goal

pub copy_from_slice-requires : goal.copy_from_slice-requires
copy_from_slice-requires c =
    let h : is_moment c.args.text.now ≡ true = search rules in
    sym (has_form-length (codes "0000-00-00T00:00:00Z") c.args.text.now (moment-form c.args.text.now h))
