use Rattle.server.proofs.Windows.{stands_new}
use Rattle.server.proofs.servers.Server.new.Goals as goal

pub invariant_of-result : goal.invariant_of-result
invariant_of-result c = stands_new c.args.window c.new.result c.in_ok-new.field-0 c.new.ensures c.in_ok-new.ensures
