use Rattle.std.proofs.Common.{rules}
use Rattle.std.proofs.lemmas.Fn.{always_returns_same}
use Rattle.replicaset.proofs.RankOrder.{sorted_pods}
use Rattle.replicaset.proofs.ranks.sort.Goals as goal

pub returns : goal.returns
returns c =
    sorted_pods c.sort_by_key.result c.args.pods.now.items c.sort_by_key.new.self.items c.sort_by_key.ensures.sorted c.sort_by_key.ensures.stable
    (always_returns_same _ _ _ (λ a r q k. search rules))
