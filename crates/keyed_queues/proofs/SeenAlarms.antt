-- The index of delayed keys by moment, by what its alarms say.
use Rattle.std.proofs.Common.{◌≡◌, sym, ap, ◌∙◌, List, [], ◌∷◌, map, Ordering, Less}
use Rattle.std.specs.List.{AllByRecursion}
use Rattle.std.specs.List.Sorted.{IsStrictlySortedBy}
use Rattle.std.specs.Ordering.{nat_cmp, ordering_then, then_cmp, on}
use Rattle.keyed_queues.specs.declared.alarm.Alarm.{Alarm}
use Rattle.keyed_queues.specs.Delays.{alarm_cmp}
use Rattle.keyed_queues.specs.Said.{alarm_said}

-- keys with moments go by moment, then key
abbrev pub by_moment : {K : Type 0} → (K → K → Ordering) → Alarm K → Alarm K → Ordering
by_moment {K = K} cmp = then_cmp (on (λ (a : Alarm K). a.at) nat_cmp) (on (λ (a : Alarm K). a.key) cmp)

module _ {K N : Type 0} (R : N → N → Ordering) (say : K → N) (cmp : K → K → Ordering) (alike : (a b : K) → cmp a b ≡ R (say a) (say b)) where
  -- and alarms go by what they say
  pub alarms_alike : (a b : Alarm K) → by_moment cmp a b ≡ alarm_cmp R (alarm_said say a) (alarm_said say b)
  alarms_alike a b = ap (ordering_then (nat_cmp a.at b.at)) (alike a.key b.key)

  below_seen : (a : Alarm K) (ks : List (Alarm K)) → AllByRecursion (λ y. by_moment cmp a y ≡ Less) ks → AllByRecursion (λ y. alarm_cmp R (alarm_said say a) y ≡ Less) (map (alarm_said say) ks)
  below_seen a [] h = tt
  below_seen a (k ∷ ks) h = (sym (alarms_alike a k) ∙ h.0, below_seen a ks h.1)

  -- keys in order say alarms in order
  pub in_order_seen : (ks : List (Alarm K)) → IsStrictlySortedBy (by_moment cmp) ks → IsStrictlySortedBy (alarm_cmp R) (map (alarm_said say) ks)
  unfolding IsStrictlySortedBy
  in_order_seen [] h = tt
  in_order_seen (k ∷ ks) h = (below_seen k ks h.0, in_order_seen ks h.1)
