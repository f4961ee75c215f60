use Rattle.object_keys.specs.Keys.{key_of}
use Rattle.reconciler.proofs.Wanted.{asks_wanted}
use Rattle.mirror_example.specs.Mirrored.{wanted}
use Rattle.mirror_example.proofs.mirror.MirrorReconcilerKey.reconcile.Goals as goal

pub returns-clause-acts : goal.returns-clause-acts
returns-clause-acts g c =
    let (trace, asked, so) = c.ask.ensures in
    (trace, asked, asks_wanted c.next.result (wanted (key_of c.args.key.now) c.args.shown.now) trace c.ask.result c.next.ensures.asked c.next.ensures.refused so)
