use Rattle.std.proofs.Common.{◌∙◌}
use Rattle.sim_steps.proofs.ByWords.{config_first, config_alone}
use Rattle.sim_steps.proofs.config.Config.read.Goals as goal

pub returns-in-Some : goal.returns-in-Some
returns-in-Some c = c.with_first.ensures ∙ config_first c.args.line.now c.in-Some.first.now c.in-Some.rest.now c.in-Some.ensures

pub returns-in-None : goal.returns-in-None
returns-in-None c = config_alone c.args.line.now c.in-None.ensures
