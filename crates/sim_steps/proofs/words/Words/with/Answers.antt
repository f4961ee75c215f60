use Rattle.sim_steps.proofs.ByWords.{two, three, more}
use Rattle.sim_steps.proofs.words.Words.with.Goals as goal

pub returns-in_default : goal.returns-in_default
returns-in_default c = two c.args.first.now c.args.rest.now c.in_default.ensures

pub returns-in-Some-cut : goal.returns-in-Some-cut
returns-in-Some-cut c = more c.args.first.now c.args.rest.now c.in-Some.second.now c.in-Some.third.now _ c.in-Some.ensures c.in-Some-cut.ensures

pub returns-in-None : goal.returns-in-None
returns-in-None c = three c.args.first.now c.args.rest.now c.in-Some.second.now c.in-Some.third.now c.in-Some.ensures c.in-None.ensures
