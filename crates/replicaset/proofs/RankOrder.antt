-- The derived order of ranks is that of what they say.
use Rattle.std.proofs.Common.{◌≡◌, nat_cmp, rules, Ordering, List, map, Bor, Result, Ok, Err, OnOk, ap, ◌∙◌, subst}
use Rattle.std.specs.Cmp.{IsTotalOrder, on_total}
use Rattle.std.specs.Fn.{ComputesKey}
use denote.Param.Members.{Mut}
use Rattle.std.specs.List.Sorted.{IsSorted, IsStable, IsSortedByKeyClosure, IsStableByKeyClosure}
use Rattle.std.specs.Ordering.{on}
use Rattle.serde_json.specs.Data.{Data}
use Rattle.spec_api.specs.Keys.{Key}
use Rattle.object_keys.proofs.KeyOrder.{key_cmp-name_cmp}
use Rattle.spec_reconcile.specs.Orders.{in_order}
use Rattle.spec_reconcile.specs.PodRanks as plans
use Rattle.spec_reconcile.specs.PodRanks.{rank_cmp}
use Rattle.spec_reconcile.proofs.InOrder.{stable_is_in_order, in_order_map}
use Rattle.spec_reconcile.proofs.RankOrder.{rank_total}
use Rattle.replicaset.specs.contracts.ranks.PhaseOrd.TheImpl as phase_ord
use Rattle.replicaset.specs.contracts.ranks.RankOrd.TheImpl as rank_ord
use Rattle.replicaset.specs.declared.ranks.Phase.{Phase}
use Rattle.replicaset.specs.declared.ranks.Rank.{Rank}
use Rattle.replicaset.specs.declared.ranks.Ranked.{Ranked}
use Rattle.replicaset.specs.Ranks.{phase_of, rank_of, ranked_of}

phase_cmp-phase_of : (a b : Phase) → (phase_ord.ghosts).cmp a b ≡ nat_cmp (phase_of a) (phase_of b)
phase_cmp-phase_of a b = search rules

abbrev pub derived_cmp : Rank → Rank → Ordering
derived_cmp = (rank_ord.ghosts).cmp

pub derived_cmp-rank_cmp : (a b : Rank) → derived_cmp a b ≡ rank_cmp (rank_of a) (rank_of b)
derived_cmp-rank_cmp a b = search (rules, phase_cmp-phase_of, key_cmp-name_cmp)

-- ---- pods in the order of their ranks

abbrev pub by_rank : Ranked → Ranked → Ordering
by_rank = on (λ (p : Ranked). rank_of p.rank) rank_cmp

by_rank_total : IsTotalOrder by_rank
by_rank_total = on_total (λ (p : Ranked). rank_of p.rank) rank_total

derived_is_by_rank : (on (λ (p : Ranked). p.rank) derived_cmp) ≡ by_rank
derived_is_by_rank = λ i a b. derived_cmp-rank_cmp a.rank b.rank i

sorted_is_in_order : (xs ys : List Ranked) → IsSorted by_rank ys → IsStable by_rank xs ys → map ranked_of ys ≡ in_order (on (λ (r : plans.Rank × (Key × Data)). r.0) rank_cmp) (map ranked_of xs)
sorted_is_in_order xs ys up stable =
    ap (map ranked_of) (stable_is_in_order by_rank_total xs ys up stable) ∙ in_order_map ranked_of (on (λ (r : plans.Rank × (Key × Data)). r.0) rank_cmp) xs

pub sorted_pods : {X E F : Type 0} {g : Mut F (Bor Ranked × Unit {0}) Rank} {f : F} (r : Result X E) (xs ys : List Ranked)
    → OnOk r (IsSortedByKeyClosure g derived_cmp f ys) → IsStableByKeyClosure g derived_cmp f xs ys → ComputesKey g (λ (p : Ranked). p.rank) f
    → OnOk r (map ranked_of ys ≡ in_order (on (λ (r : plans.Rank × (Key × Data)). r.0) rank_cmp) (map ranked_of xs))
sorted_pods (Ok x) xs ys up stable keys =
    sorted_is_in_order xs ys
    (subst (λ (R : Ranked → Ranked → Ordering). IsSorted R ys) derived_is_by_rank (up (λ (p : Ranked). p.rank) keys))
    (subst (λ (R : Ranked → Ranked → Ordering). IsStable R xs ys) derived_is_by_rank (stable (λ (p : Ranked). p.rank) keys))
sorted_pods (Err e) xs ys up stable keys = tt
