use Rattle.std.proofs.Common.{◌≡◌, true, rules}
use Rattle.sim_steps.proofs.Digits.{no_number, parsed}
use Rattle.sim_steps.specs.Words.{is_number}
use Rattle.sim_steps.proofs.words.number.Goals as goal

pub returns-in_default : goal.returns-in_default
returns-in_default c = no_number c.args.word.now c.in_default.ensures.cases.0

pub returns-in-Err : goal.returns-in-Err
returns-in-Err c =
    let h : is_number c.in-Ok.text.now ≡ true = search rules in
    absurd (parsed c.in-Ok.text.now h c.in-Err.ensures.value.0)
