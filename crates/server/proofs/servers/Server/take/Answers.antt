use Rattle.meta.specs.Writes.{write_of}
use Rattle.server.proofs.Windows.{stands_written}
use Rattle.server.proofs.servers.Server.take.Goals as goal

pub invariant_of-self-2 : goal.invariant_of-self-2
invariant_of-self-2 c =
    let s = c.self.inside in
    stands_written s.store s.caches c.self.invariant c.apply.new.self (write_of c.args.write) c.in_ok-old.ensures.ok
