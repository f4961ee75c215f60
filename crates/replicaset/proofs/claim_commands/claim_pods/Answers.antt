use Rattle.std.proofs.Common.{◌≡◌, ◌+◌, ◌++◌, ◌∷◌, map, drop, arith}
use Rattle.object_keys.specs.Keys.{key_of}
use Rattle.spec_reconcile.specs.PodClaims.{claims, own_pods}
use Rattle.replicaset.specs.Ranks.{pods_of}
use Rattle.replicaset.specs.Relations.{relation}
use Rattle.replicaset.proofs.Related.{claims_on, next_pod, own_on}
use Rattle.reconcile_types.specs.Commands.{command_of}
use Rattle.reconcile_types.specs.Entries.{entry_of}
use Rattle.replicaset.proofs.claim_commands.claim_pods.Goals as goal

pub loop-pod-preserved : goal.loop-pod-preserved
loop-pod-preserved c =
    let k = key_of c.args.key.now in
    let set = c.args.set.now.value in
    let may = c.args.may in
    let pods = c.args.pods.now in
    let p = entry_of c.pod-item.result in
    let rest = map entry_of (drop (c.loop-pod.pod-index + 1) pods) in
    let left = map entry_of (drop c.loop-pod.pod-index pods) in
    let is : left ≡ p ∷ rest = next_pod pods c.loop-pod.pod-index c.pod-item.result _ (omega arith) c.pod-item.is in
    let r = c.of-relation.result in
    let related : r ≡ relation set p.1 = c.of-relation.ensures in (
      claims_on k set may p rest left r (map command_of c.loop-pod.commands.items) (map command_of c.add_claim.new.commands.items) (map command_of c.args.commands.now.items ++ claims k set may (map entry_of pods)) related is c.in_ok-add_claim.ensures c.loop-pod.invariant.0,
      own_on set may p rest left r (pods_of c.loop-pod.own.items) (pods_of c.add_own.new.own.items) (own_pods set may (map entry_of pods)) related is c.in_ok-add_own.ensures.own c.loop-pod.invariant.1,
      c.in_ok-add_own.ensures.read,
    )
