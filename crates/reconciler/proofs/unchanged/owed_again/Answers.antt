use Rattle.std.proofs.Common.{◌++◌, ap, ◌∙◌, sym, subst}
use Rattle.std.proofs.lemmas.Result.{IfOk-weaker}
use Rattle.reconciler.specs.Owing.{AreOwed}
use Rattle.reconciler.specs.Unchanged.{unchanged, all_unchanged}
use Rattle.reconciler.proofs.Again.{all_owed_by}
use Rattle.reconciler.proofs.unchanged.owed_again.Goals as goal

pub returns : goal.returns
returns g c =
    let owes = (g.C.Reconciler.owes c.args.shown.now) in
    let shown = c.args.shown.now in
    let first = c.in_ok-config_maps.config_maps.items in
    let second = c.in_ok-pods.pods.items in
    let third = c.in_ok-replica_sets.replica_sets.items in
    let fourth = c.in_ok-deployments.deployments.items in
    let so =
    all_owed_by owes (unchanged shown.config_maps.members) (unchanged shown.pods.members) (unchanged shown.replica_sets.members) (unchanged shown.deployments.members) first second third fourth
    c.in_ok-config_maps.ensures c.in_ok-pods.ensures c.in_ok-replica_sets.ensures c.in_ok-deployments.ensures in
    IfOk-weaker c.joined-3.result _ _
    (λ keys is. subst (AreOwed owes (all_unchanged shown)) (sym (is ∙ ap (λ l. first ++ l) (c.in_ok-later.ensures ∙ ap (λ l. second ++ l) c.in_ok-apps.ensures))) so)
    c.joined-3.ensures
