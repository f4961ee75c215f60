use Rattle.std.proofs.Common.{◌+◌, bytes_eq, Some, unwrap_or, refl, ap, ◌∙◌}
use Rattle.std.proofs.lemmas.Map.Text.{btree_map_updates_str}
use Rattle.replicaset.proofs.Counts.{one_more}
use Rattle.replicaset.proofs.nodes.count_one.Goals as goal

pub returns : goal.returns
returns c =
    λ n. let node = c.args.node.now in
    let before = c.count_at-before.result in
    ap (λ o. unwrap_or o 0) (btree_map_updates_str node c.args.counts.now c.insert.new.self (Some (before + 1)) c.in_ok-insert.ensures.updates n)
    ∙ one_more c.args.counts.now node n before (bytes_eq node n) refl c.count_at-before.ensures
