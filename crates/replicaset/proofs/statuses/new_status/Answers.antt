use Rattle.std.proofs.Common.{◌≡◌, ◌∙◌, length, rules, sym}
use Rattle.spec_reconcile.specs.ReplicaSets.{ready_pods}
use Rattle.replicaset.specs.Ranks.{pods_of}
use Rattle.replicaset.proofs.RankedPods.{all_read, ready_read}
use Rattle.replicaset.proofs.statuses.new_status.Goals as goal

pub returns : goal.returns
returns c =
    let ready : c.count_ready.result ≡ length (ready_pods (pods_of c.args.pods.now)) = c.count_ready.ensures ∙ ready_read c.args.pods.now c.requires in
    rw (sym ready, all_read c.args.pods.now) (search rules)
