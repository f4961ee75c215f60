use Rattle.std.proofs.Common.{◌≡◌, ap, arith}
use Rattle.spec_server.specs.Servers.{Server}
use Rattle.watch_cache.specs.Changes.{change_seen}
use Rattle.server.proofs.Windows.{stands_recorded}
use Rattle.server.proofs.servers.Server.record.Goals as goal

pub invariant_of-self : goal.invariant_of-self
invariant_of-self c =
    let s = c.self.inside in
    let same : s.store.revision ≡ c.args.self.now.snapshot.revision = ap (λ (z : Server). z.snapshot.revision) c.self.view_is in
    stands_recorded s.store s.caches c.self.invariant c.record.new.self c.args.change.key.kind (change_seen c.args.change) c.record.ensures (omega (arith, same, c.requires.present))
