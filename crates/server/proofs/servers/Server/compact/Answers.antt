use Rattle.server.proofs.Windows.{stands_compacted}
use Rattle.server.proofs.servers.Server.compact.Goals as goal

pub invariant_of-self : goal.invariant_of-self
invariant_of-self c =
    let s = c.self.inside in
    stands_compacted s.store s.caches c.self.invariant c.compact.new.self c.args.revision c.compact.ensures
