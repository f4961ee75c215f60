use Rattle.std.proofs.Common.{rules, ◌≡◌, ◌<◌, true, refl, Some}
use Rattle.std.specs.Str.Parse.{digits_value}
use Rattle.spec_http.specs.Heads.{is_number, one_number}
use Rattle.http_client.proofs.framing.framing_by_length.Goals as goal

pub returns-in-None : goal.returns-in-None
returns-in-None c =
    let number : is_number c.args.text.now ≡ true = search rules in
    let value : one_number c.args.text.now ≡ Some (Some (digits_value 10 c.args.text.now)) = rw number refl in
    let more : c.args.most < digits_value 10 c.args.text.now = search rules in
    (digits_value 10 c.args.text.now, value, more)
