-- What holds of the numbers and the commands of every plan of a Deployment (Kubernetes, Deployments).
use Rattle.std.specs.Prelude.{◌≡◌, ℕ, ◌+◌, ◌-◌, ◌*◌, ◌≤◌, ◌<◌, ◌^◌, ◌⊎◌, min, max, List, [], ◌∷◌, length, drop, true, false, Some, codes}
use Rattle.std.specs.Cmp.Lexicographic.{slice_cmp}
use Rattle.std.specs.List.{AllByRecursion, Contains}
use Rattle.std.specs.Ordering.{nat_cmp, is_le}
use Rattle.serde_json.specs.Data.{Data}
use Rattle.spec_api.specs.declared.amounts.Amount.TheVariants.{Percent}
use Rattle.spec_api.specs.History.{Entries, found}
use Rattle.spec_api.specs.Keys.{Key}
use Rattle.spec_api.specs.Metadata.{uid, version}
use Rattle.spec_client_go.specs.Commands.{Command, update_status, delete}
use Rattle.spec_client_go.specs.Hands.{Hand}
use Rattle.spec_reconcile.specs.Counts.{count_in_spec, count_in_status, replicas}
use Rattle.spec_reconcile.specs.Deployments.{Rollout, all_but_last, history, is_going_on, new_object, plan, rollout, with_replicas}
use Rattle.spec_reconcile.specs.Revisions.{raised, revision}
use Rattle.spec_reconcile.specs.Rollouts.{rounded_up, rounded_down, total, asked, available, most, fewest, growth, resized, cuts, shrunk}
use Rattle.spec_reconcile.specs.declared.rollouts.Pace.{Pace}
use Rattle.spec_reconcile.specs.declared.rollouts.Tally.{Tally}
use Rattle.spec_laws.specs.ReplicaSetLaws.{created}

-- ---- percentages

-- the surge of a percentage is the least whole number that is no less
abbrev pub SurgeIsLeast : Type 0
SurgeIsLeast = (p r : ℕ) → (p * r ≤ 100 * rounded_up (Percent p) r) × ((s : ℕ) → p * r ≤ 100 * s → rounded_up (Percent p) r ≤ s)

-- and what may be unavailable the greatest that is no more
abbrev pub UnavailableIsGreatest : Type 0
UnavailableIsGreatest = (p r : ℕ) → (100 * rounded_down (Percent p) r ≤ p * r) × ((u : ℕ) → 100 * u ≤ p * r → u ≤ rounded_down (Percent p) r)

-- ---- the new set

-- the new set grows to no more than what is wanted, and all sets to no more than the most
abbrev pub Grows : Pace → ℕ → ℕ → ℕ → Type 0
Grows p all n g = (n + g ≤ p.wanted) × (all + g ≤ most p)

-- it grows as far as it can
abbrev pub GrowthIsGreatest : Type 0
GrowthIsGreatest = (p : Pace) (all n : ℕ) → n ≤ p.wanted → all ≤ most p → Grows p all n (growth p all n) × ((g : ℕ) → Grows p all n g → g ≤ growth p all n)

-- ---- lists in dictionary order

-- each number is at most its bound
abbrev pub Bounded : List ℕ → List ℕ → Type 0
Bounded [] [] = Unit {0}
Bounded [] (b ∷ bs) = ⊥
Bounded (c ∷ cs) [] = ⊥
Bounded (c ∷ cs) (b ∷ bs) = (c ≤ b) × Bounded cs bs

-- and the sum at most the room
abbrev pub Cuts : ℕ → List ℕ → List ℕ → Type 0
Cuts room bs cs = Bounded cs bs × (total cs ≤ room)

-- the cuts of the old sets are the greatest list in dictionary order
abbrev pub CutsAreGreatest : Type 0
CutsAreGreatest =
    (room : ℕ) (bs : List ℕ) → Cuts room bs (cuts room bs) × ((cs : List ℕ) → Cuts room bs cs → is_le (slice_cmp nat_cmp cs (cuts room bs)) ≡ true)

-- ---- what users rely on

-- what all sets are to have never passes the most by a new set that is made, where it did not before
abbrev pub MadeStayBelow : Type 0
MadeStayBelow = (p : Pace) (all : ℕ) → growth p all 0 + all ≤ max all (most p)

-- nor by one that grows or shrinks beside the rest
abbrev pub ResizesStayBelow : Type 0
ResizesStayBelow = (p : Pace) (n rest : ℕ) → resized p (n + rest) n + rest ≤ max (n + rest) (most p)

-- no old set is to have more than before
abbrev pub OldSetsOnlyShrink : Type 0
OldSetsOnlyShrink = (p : Pace) (new : Tally) (old : List Tally) → Bounded (shrunk p new old) (asked old)

-- the available pods that sets lose as each is to have so many: a set keeps its available pods longest
abbrev pub lost : List Tally → List ℕ → ℕ
lost [] ns = 0
lost (t ∷ ts) [] = 0
lost (t ∷ ts) (n ∷ ns) = (min t.available t.replicas - n) + lost ts ns

-- of available pods the old sets lose only those above the fewest
abbrev pub AvailablePodsStay : Type 0
AvailablePodsStay = (p : Pace) (new : Tally) (old : List Tally) → lost old (shrunk p new old) ≤ available (new ∷ old) - fewest p

-- where the fewest are available, they stay
abbrev pub FewestStay : Type 0
FewestStay =
    (p : Pace) (new : Tally) (old : List Tally) → fewest p ≤ available (new ∷ old)
    → fewest p + lost old (shrunk p new old) ≤ available (new ∷ old)

-- what the old sets are to have, with the available pods of the new set, stays the fewest, where no old set has more available pods than that
abbrev pub OldSetsStandIn : Type 0
OldSetsStandIn =
    (p : Pace) (new : Tally) (old : List Tally) → AllByRecursion (λ t. t.available ≤ t.replicas) old → fewest p ≤ total (asked old) + new.available
    → fewest p ≤ total (shrunk p new old) + new.available

-- ---- what commands say

-- a set that is scaled to a number is to have just so many pods
abbrev pub ScalesAskForTheirNumber : Type 0
ScalesAskForTheirNumber = (n : ℕ) (d : Data) → n < 2 ^ 63 → replicas (with_replicas n d) ≡ n

-- and so is one that is made with it
abbrev pub MadeSetsAskForTheirNumber : Type 0
MadeSetsAskForTheirNumber = (r : Rollout) (n : ℕ) → n < 2 ^ 63 → replicas (new_object r n) ≡ n

-- an update of a set names the version that was looked at
abbrev pub UpdatesNameTheLookedVersion : Type 0
UpdatesNameTheLookedVersion = (n due : ℕ) (d : Data) → version (with_replicas n (raised due d)) ≡ version d

-- ---- of whole plans

-- at most one set is made
abbrev pub AtMostOneSetIsMade : Type 0
AtMostOneSetIsMade = (h : Hand) → created (plan h) ≤ 1

-- nothing is commanded, or an update of the status alone
abbrev pub IsAtMostStatus : Key → List Command → Type 0
IsAtMostStatus k cs = (cs ≡ []) ⊎ ((d : Data) × (cs ≡ update_status k d ∷ []))

-- for a Deployment that is paused or being deleted nothing is done but to report its status
abbrev pub WaitingOnesReport : Type 0
WaitingOnesReport = (h : Hand) (d : Data) → found h.key h.looks.deployments ≡ Some d → is_going_on d ≡ false → IsAtMostStatus h.key (plan h)

-- the old sets of a Deployment that was looked at
abbrev pub old_of : Hand → Data → Entries
old_of h d = (rollout h.key d h.looks.replica_sets).old

-- how many of them are to stay, whatever they have
abbrev pub limit_of : Data → ℕ
limit_of d = count_in_spec (codes "revisionHistoryLimit") d

-- a delete names, by its uid, one of the old sets with no pods asked for and none there, and none of the last so many
abbrev pub DeletesSpent : ℕ → Entries → Command → Type 0
DeletesSpent limit old (delete k u v p) =
    (s : Data) × Contains old (k, s) × Contains (all_but_last limit (history old)) (k, s) × (u ≡ uid s) × (replicas s ≡ 0) × (count_in_status (codes "replicas") s ≡ 0)
DeletesSpent limit old c = Unit {0}

abbrev pub OnlySpentSetsAreDeleted : Type 0
OnlySpentSetsAreDeleted =
    (h : Hand) (d : Data) → found h.key h.looks.deployments ≡ Some d → AllByRecursion (DeletesSpent (limit_of d) (old_of h d)) (plan h)

-- the last so many by revision
abbrev pub latest : ℕ → Entries → Entries
latest limit old = drop (length (history old) - limit) (history old)

-- of the others none is of a higher revision than one of these; and these are as many as that, or all
abbrev pub LatestRevisionsStay : Type 0
LatestRevisionsStay =
    (limit : ℕ) (old : Entries)
    → AllByRecursion (λ s. AllByRecursion (λ kept. revision s.1 ≤ revision kept.1) (latest limit old)) (all_but_last limit (history old))
    × (length (latest limit old) ≡ min limit (length (history old)))
