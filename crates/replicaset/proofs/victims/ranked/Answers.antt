use Rattle.std.proofs.Common.{ap, ◌∙◌, map}
use Rattle.std.specs.Ordering.{on}
use Rattle.serde_json.specs.Data.{Data}
use Rattle.spec_api.specs.Keys.{Key}
use Rattle.spec_reconcile.specs.Orders.{in_order}
use Rattle.spec_reconcile.specs.PodRanks.{Rank, rank_cmp}
use Rattle.replicaset.specs.Nodes.{count_at}
use Rattle.replicaset.specs.Ranks.{pods_of, ranked_of}
use Rattle.replicaset.proofs.RankedPods.{beside_read, in_ranks, on_node_read, ranked_by_count}
use Rattle.replicaset.proofs.victims.ranked.Goals as goal

pub returns : goal.returns
returns c =
    let counts = c.in_ok-counts.counts in
    let pods = c.args.pods.now in
    let are = c.requires in
    in_ranks c.sort.new.pods.items
    ∙ ranked_by_count (λ n. count_at n counts) (pods_of pods) (map ranked_of c.sort.new.pods.items) (λ n. c.in_ok-counts.ensures n ∙ on_node_read n pods are)
    (c.in_ok-sort.ensures ∙ ap (in_order (on (λ (r : Rank × (Key × Data)). r.0) rank_cmp)) (c.in_ok-ranked.ensures ∙ beside_read (λ n. count_at n counts) pods are))
