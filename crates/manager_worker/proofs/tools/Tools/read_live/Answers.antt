use Rattle.object_keys.specs.Keys.{key_of}
use Rattle.manager_worker.specs.Patience.{Hears, heard}
use Rattle.manager_worker.proofs.Stepped.{reads}
use Rattle.manager_worker.proofs.tools.Tools.read_live.Goals as goal

pub returns-clause-reads : goal.returns-clause-reads
returns-clause-reads g c =
    reads (Hears g.A.Api.answers) (key_of c.args.key.now) c.args.turn.now c.add_found.new.turn (heard c.args.self.now.api c.args.patience.now) (heard c.find.new.self.api c.find.new.patience) c.in_ok-found.found c.add_found.result c.in_ok-found.ensures.found
    c.add_found.ensures.ok c.add_found.ensures.err
