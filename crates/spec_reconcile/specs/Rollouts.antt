-- The numbers of a rolling update: how far the new set grows, and what the old ones lose (Kubernetes, Deployments, Rolling Update Deployment).
use Rattle.std.specs.Prelude.{ℕ, ◌+◌, ◌-◌, ◌*◌, ◌/◌, ◌==◌, ◌&&◌, min, nat_lt, List, [], ◌∷◌, map, if◌then◌else◌}
use Rattle.spec_api.specs.declared.amounts.Amount.{Amount}
use Rattle.spec_api.specs.declared.amounts.Amount.TheVariants.{Pods, Percent}
use Rattle.spec_reconcile.specs.Counts.{not_below_0}
use Rattle.spec_reconcile.specs.declared.rollouts.Pace.{Pace}
use Rattle.spec_reconcile.specs.declared.rollouts.Tally.{Tally}

-- ---- the pace (Kubernetes, Deployments, Max Unavailable and Max Surge)

-- so many of r pods: a part of a pod counts as a pod
abbrev pub rounded_up : Amount → ℕ → ℕ
rounded_up (Pods z) r = not_below_0 z
rounded_up (Percent p) r = (p * r + 99) / 100

-- so many of r pods: a part of a pod does not count
abbrev pub rounded_down : Amount → ℕ → ℕ
rounded_down (Pods z) r = not_below_0 z
rounded_down (Percent p) r = p * r / 100

-- where neither lets anything go on, one pod may be unavailable
abbrev pub at_least_one : ℕ → ℕ → ℕ
at_least_one surge unavailable = if (surge == 0) && (unavailable == 0) then 1 else unavailable

-- the surge is rounded up; what may be unavailable is rounded down, and is never more than are wanted
abbrev pub pace : ℕ → Amount → Amount → Pace
pace r surge unavailable =
    record {
      wanted = r;
      surge = rounded_up surge r;
      unavailable = min (at_least_one (rounded_up surge r) (rounded_down unavailable r)) r;
    }

-- the most pods that there are to be, and the fewest that are to be available
abbrev pub most : Pace → ℕ
most p = p.wanted + p.surge

abbrev pub fewest : Pace → ℕ
fewest p = p.wanted - p.unavailable

-- ---- the sets

abbrev pub total : List ℕ → ℕ
total [] = 0
total (n ∷ ns) = n + total ns

-- how many pods each of the sets is to have
abbrev pub asked : List Tally → List ℕ
asked ts = map (λ (t : Tally). t.replicas) ts

-- how many of their pods are available
abbrev pub available : List Tally → ℕ
available ts = total (map (λ (t : Tally). t.available) ts)

-- ---- the new set

-- by how much a set of n grows where all sets are to have so many: no further than what is wanted, and all of them no further than the most
abbrev pub growth : Pace → ℕ → ℕ → ℕ
growth p all n = min (most p - all) (p.wanted - n)

-- how many pods the new set is to have; it shrinks at once
abbrev pub resized : Pace → ℕ → ℕ → ℕ
resized p all n = if nat_lt p.wanted n then p.wanted else n + growth p all n

-- ---- the old sets

-- the greatest list in dictionary order with each number at most its bound, and the sum at most the room
abbrev pub cuts : ℕ → List ℕ → List ℕ
cuts room [] = []
cuts room (b ∷ bs) = min room b ∷ cuts (room - min room b) bs

-- what is left of each number
abbrev pub less : List ℕ → List ℕ → List ℕ
less [] cs = []
less (n ∷ ns) [] = n ∷ ns
less (n ∷ ns) (c ∷ cs) = (n - c) ∷ less ns cs

-- the pods of a set that are not available
abbrev pub missing : Tally → ℕ
missing t = t.replicas - t.available

-- how many pods the old sets may lose: those above the fewest, but for those of the new set that are not available yet
abbrev pub room : Pace → Tally → List Tally → ℕ
room p new old = (total (asked (new ∷ old)) + new.available) - (fewest p + new.replicas)

-- first they lose pods that are not available
abbrev pub without_missing : ℕ → List Tally → List ℕ
without_missing room old = less (asked old) (cuts room (map missing old))

-- then available ones, as long as the fewest stay
abbrev pub without_spare : ℕ → List ℕ → List ℕ
without_spare spare left = less left (cuts spare left)

-- how many pods each of the old sets is to have
abbrev pub shrunk : Pace → Tally → List Tally → List ℕ
shrunk p new old =
    if room p new old == 0 then asked old
    else without_spare (available (new ∷ old) - fewest p) (without_missing (room p new old) old)
