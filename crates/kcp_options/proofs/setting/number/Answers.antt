use Rattle.std.proofs.Common.{◌≡◌, true, rules}
use Rattle.kcp_options.specs.Options.{is_number}
use Rattle.kcp_options.proofs.Numbers.{parsed}
use Rattle.kcp_options.proofs.setting.number.Goals as goal

pub returns-in-Err : goal.returns-in-Err
returns-in-Err c =
    let h : is_number c.args.text.now ≡ true = search rules in
    absurd (parsed c.args.text.now h c.in-Err.ensures.value.0)
