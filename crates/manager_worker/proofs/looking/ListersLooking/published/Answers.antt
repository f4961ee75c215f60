use Rattle.manager_worker.proofs.Looks.{shown}
use Rattle.manager_worker.proofs.looking.ListersLooking.published.Goals as goal

pub returns : goal.returns
returns c = shown c.args.kind c.args.self.now c.copy.new.self c.copy.result c.copy.ensures.found (c.copy.ensures.knows, c.copy.ensures.others)
