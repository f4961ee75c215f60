use Rattle.std.proofs.Common.{◌≡◌, ◌∙◌, ◌≤◌, ◌<◌, List, map, sym, ap, subst, arith}
use Rattle.circular_buffer.specs.Buffer.{Buffer}
use Rattle.spec_api.specs.Windows.{Change as Kept, IsRising, last_revision}
use Rattle.spec_server.specs.Recorded.{Window}
use Rattle.watch_cache.specs.Changes.{change_seen}
use Rattle.watch_cache.specs.declared.changes.Change.{Change}
use Rattle.watch_cache.proofs.Recorded.{rising_kept, kept_last, last_kept}
use Rattle.watch_cache.proofs.cache.Cache.record.Goals as goal

pub invariant_of-self : goal.invariant_of-self
invariant_of-self c =
    let ring = c.self.inside.changes in
    let last : last_revision 0 (map change_seen ring.items) ≡ last_revision 0 c.args.self.now.kept = ap (λ (w : Window). last_revision 0 w.kept) c.self.view_is in
    let next : last_revision 0 (map change_seen ring.items) < c.args.change.revision = omega (arith, last, c.requires) in (
      omega (arith, c.raised-self-inside.ensures, c.self.invariant.0),
      subst (λ (b : Buffer Change). IsRising 0 (map change_seen b.items)) (sym c.push_back-dropped.ensures.items) (rising_kept ring.capacity ring.items c.args.change c.self.invariant.1 next),
    )

pub returns-clause-last : goal.returns-clause-last
returns-clause-last c =
    let ring = c.self.inside.changes in
    subst (λ (ks : List Kept). last_revision 0 ks ≤ c.args.change.revision)
    (sym (ap (λ (b : Buffer Change). map change_seen b.items) c.push_back-dropped.ensures.items ∙ kept_last ring.capacity ring.items c.args.change))
    (last_kept ring.capacity (map change_seen ring.items) (change_seen c.args.change))
