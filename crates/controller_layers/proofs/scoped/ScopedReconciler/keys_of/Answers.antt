use Rattle.std.proofs.lemmas.Result.{IfOk-weaker}
use Rattle.indexer.specs.Shifted.{shift_of}
use Rattle.controller_layers.specs.Scoped.{views_in}
use Rattle.controller_layers.proofs.OwedWithin.{owed_within}
use Rattle.controller_layers.proofs.scoped.ScopedReconciler.keys_of.Goals as goal

pub returns : goal.returns
returns g c =
    IfOk-weaker c.keys_within.result _ _ (λ keys. owed_within (g.C.Reconciler.owes c.args.shown.now) (shift_of c.args.change.now) keys.items (views_in c.args.self.now)) c.keys_within.ensures
