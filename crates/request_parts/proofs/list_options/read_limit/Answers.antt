use Rattle.std.proofs.Common.{◌≡◌, ◌<◌, ◌≤◌, length, true, arith, rules}
use Rattle.std.proofs.lemmas.Bool.Decides.{nat_tests}
use Rattle.std.specs.List.{list_all}
use Rattle.spec_api.specs.Moments.{is_digit}
use Rattle.request_parts.proofs.LimitTexts.{fits}
use Rattle.request_parts.proofs.list_options.read_limit.Goals as goal

pub returns-in-Err : goal.returns-in-Err
returns-in-Err c =
    let t = c.args.text.now in
    let digits : list_all is_digit t ≡ true = search rules in
    let long : 0 < length t = grind (arith, nat_tests) in
    let short : length t ≤ 9 = grind (arith, nat_tests) in
    absurd (fits t digits long short c.in-Err.ensures.value.0)
