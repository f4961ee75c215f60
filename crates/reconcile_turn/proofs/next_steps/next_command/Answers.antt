use Rattle.std.proofs.Common.{◌<◌, length, rules, arith}
use Rattle.reconcile_turn.proofs.next_steps.next_command.Goals as goal
use Rattle.reconcile_turn.proofs.Firsts.{issued_at}

pub returns-in-Some : goal.returns-in-Some
returns-in-Some c =
    let within : c.args.issued < length c.deref.result.now = grind arith in
    issued_at c.args.is_accepted c.args.plan.now.commands.items c.deref.result.now c.args.issued c.in-Some.command.now (search rules) c.deref.ensures.value within c.in-Some.ensures.lookup.1
