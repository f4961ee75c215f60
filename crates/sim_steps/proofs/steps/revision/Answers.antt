use Rattle.sim_steps.proofs.Digits.{no_revision}
use Rattle.sim_steps.proofs.steps.revision.Goals as goal

pub returns-in-Err : goal.returns-in-Err
returns-in-Err c = no_revision c.args.text.now c.in-Err.ensures.cases.0
