-- How many pods a Deployment's sets are to have as the commands of a plan are accepted (Kubernetes, Deployments, Rolling Update Deployment).
use Rattle.std.specs.Prelude.{◌≡◌, ℕ, ◌+◌, ◌-◌, ◌≤◌, ◌<◌, ◌^◌, min, max, List, [], ◌∷◌, map, take, true, Bool, Some, codes, if◌then◌else◌}
use Rattle.std.specs.List.{AllByRecursion}
use Rattle.std.specs.List.Sorted.{IsStrictlySortedBy}
use Rattle.std.specs.Map.{keys_of}
use Rattle.serde_json.specs.Data.{Data}
use Rattle.spec_api.specs.Checks.{in_spec}
use Rattle.spec_api.specs.Defaults.{is_rolling_update}
use Rattle.spec_api.specs.History.{Entries, found}
use Rattle.spec_api.specs.Keys.{Key, key_cmp, is_same_key}
use Rattle.spec_api.specs.SelectorValues.{is_some_and}
use Rattle.spec_client_go.specs.Commands.{Command, create, update, delete}
use Rattle.spec_client_go.specs.Hands.{Hand}
use Rattle.spec_reconcile.specs.Counts.{replicas}
use Rattle.spec_reconcile.specs.Deployments.{asked_by, managed, pace_of, plan, tally}
use Rattle.spec_reconcile.specs.Rollouts.{available, fewest, most, total}

-- ---- sets, as commands are accepted

-- how many pods the set of this key is to have, which was to have n: as the last update says, and none where it is deleted
abbrev pub asked_after : Key → ℕ → List Command → ℕ
asked_after k n [] = n
asked_after k n (update j d ∷ cs) = asked_after k (if is_same_key k j then replicas d else n) cs
asked_after k n (delete j u v p ∷ cs) = asked_after k (if is_same_key k j then 0 else n) cs
asked_after k n (c ∷ cs) = asked_after k n cs

-- how many the sets that are made are to have
abbrev pub asked_by_made : List Command → ℕ
asked_by_made [] = 0
asked_by_made (create kind ns d ∷ cs) = replicas d + asked_by_made cs
asked_by_made (c ∷ cs) = asked_by_made cs

-- how many these sets, and those that are made, are to have in all
abbrev pub asked_in_all : Entries → List Command → ℕ
asked_in_all ss cs = total (map (λ s. asked_after s.0 (replicas s.1) cs) ss) + asked_by_made cs

-- ---- available pods

-- how many are available, as the sets say
abbrev pub available_of : Entries → ℕ
available_of ss = available (map tally ss)

-- how many of its available pods a set keeps that is to have so many: it loses the others first
abbrev pub kept_of : Key × Data → ℕ → ℕ
kept_of s n = min (tally s).available n

-- how many available pods sets keep as commands are accepted
abbrev pub kept_after : Entries → List Command → ℕ
kept_after ss cs = total (map (λ s. kept_of s (asked_after s.0 (replicas s.1) cs)) ss)

-- how many available pods commands take from sets: of those that a set was to keep, the ones that it does not keep
abbrev pub taken : Entries → List Command → ℕ
taken ss cs = total (map (λ s. kept_of s (replicas s.1) - asked_after s.0 (replicas s.1) cs) ss)

-- ---- what users rely on

-- the sets that a Deployment controls, of those that were looked at
abbrev pub sets_looked_at : Hand → Data → Entries
sets_looked_at h d = managed h.key.namespace d h.looks.replica_sets

-- the Deployment was looked at; and ReplicaSets were, each key once, in the order of keys
abbrev pub Looked : Hand → Data → Type 0
Looked h d = (found h.key h.looks.deployments ≡ Some d) × IsStrictlySortedBy key_cmp (keys_of h.looks.replica_sets)

abbrev pub is_rolled : Data → Bool
is_rolled d = is_some_and is_rolling_update (in_spec (codes "strategy") d)

-- however many of a plan's commands are accepted, its sets are to have no more pods than are wanted with the surge, or than before
abbrev pub SurgeIsNeverPassed : Type 0
SurgeIsNeverPassed =
    (h : Hand) (d : Data) (n : ℕ) → Looked h d
    → asked_in_all (sets_looked_at h d) (take n (plan h)) ≤ max (asked_by (sets_looked_at h d)) (most (pace_of d))

-- the numbers of pods that are asked for are below 2 ^ 63, as all are that are stored
abbrev pub AreNumbers : Data → Entries → Type 0
AreNumbers d ss = (replicas d < 2 ^ 63) × AllByRecursion (λ s. replicas s.1 < 2 ^ 63) ss

-- where the fewest that are to be available are, a rolling update takes no more available pods than leaves so many
abbrev pub TakenLeaveFewest : Type 0
TakenLeaveFewest =
    (h : Hand) (d : Data) (n : ℕ) → Looked h d → AreNumbers d (sets_looked_at h d) → is_rolled d ≡ true
    → fewest (pace_of d) ≤ available_of (sets_looked_at h d)
    → fewest (pace_of d) + taken (sets_looked_at h d) (take n (plan h)) ≤ available_of (sets_looked_at h d)

-- so the fewest stay, where no set has more available pods than it is to have
abbrev pub FewestStayAvailable : Type 0
FewestStayAvailable =
    (h : Hand) (d : Data) (n : ℕ) → Looked h d → AreNumbers d (sets_looked_at h d) → is_rolled d ≡ true
    → AllByRecursion (λ s. (tally s).available ≤ replicas s.1) (sets_looked_at h d)
    → fewest (pace_of d) ≤ available_of (sets_looked_at h d)
    → fewest (pace_of d) ≤ kept_after (sets_looked_at h d) (take n (plan h))
