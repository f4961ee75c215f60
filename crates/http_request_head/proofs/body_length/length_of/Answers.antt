use Rattle.std.proofs.Common.{rules, ◌≡◌, ◌<◌, true, refl, Some}
use Rattle.std.specs.Str.Parse.{digits_value}
use Rattle.spec_api.specs.Targets.{longest_body}
use Rattle.spec_http.specs.Heads.{is_number, one_number}
use Rattle.http_request_head.proofs.body_length.length_of.Goals as goal

pub returns-in-None : goal.returns-in-None
returns-in-None c =
    let number : is_number c.args.text.now ≡ true = search rules in
    let value : one_number c.args.text.now ≡ Some (Some (digits_value 10 c.args.text.now)) = rw number refl in
    let more : longest_body < digits_value 10 c.args.text.now = search rules in
    (digits_value 10 c.args.text.now, value, more)
