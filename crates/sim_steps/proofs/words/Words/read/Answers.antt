use Rattle.std.proofs.Common.{◌∙◌}
use Rattle.sim_steps.proofs.ByWords.{first, alone}
use Rattle.sim_steps.proofs.words.Words.read.Goals as goal

pub returns-in-Some : goal.returns-in-Some
returns-in-Some c = c.with.ensures ∙ first c.args.text.now c.in-Some.first.now c.in-Some.rest.now c.in-Some.ensures

pub returns-in-None : goal.returns-in-None
returns-in-None c = alone c.args.text.now c.in-None.ensures
