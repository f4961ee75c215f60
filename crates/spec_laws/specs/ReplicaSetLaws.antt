-- What holds of each plan of a ReplicaSet, whatever is looked at.
use Rattle.std.specs.Prelude.{◌≡◌, ◌≤◌, ◌⊎◌, ◌-◌, ◌++◌, ℕ, suc, List, [], ◌∷◌, length, drop, false, Some, None}
use Rattle.std.specs.Cmp.{IsTotalOrder}
use Rattle.std.specs.List.{AllByRecursion, Contains}
use Rattle.std.specs.List.Sorted.{IsPermutation}
use Rattle.std.specs.Ordering.{is_lt}
use Rattle.std.specs.declared.cmp.Ordering.TheVariants.{Equal}
use Rattle.serde_json.specs.Data.{Data}
use Rattle.spec_api.specs.History.{Entries}
use Rattle.spec_api.specs.Metadata.{uid}
use Rattle.spec_client_go.specs.Commands.{Command, create, delete}
use Rattle.spec_client_go.specs.Hands.{Hand, live}
use Rattle.spec_reconcile.specs.PodClaims.{may_adopt, own_pods}
use Rattle.spec_reconcile.specs.PodRanks.{Rank, rank, rank_cmp, ranked, surplus, victims}
use Rattle.spec_reconcile.specs.ReplicaSets.{plan, pods_looked_at, replicas, set_looked_at}

-- ---- what commands do

-- how many pods they create
abbrev pub created : List Command → ℕ
created [] = 0
created (create kind ns d ∷ cs) = suc (created cs)
created (c ∷ cs) = created cs

-- how many they delete
abbrev pub deleted : List Command → ℕ
deleted [] = 0
deleted (delete k u v p ∷ cs) = suc (deleted cs)
deleted (c ∷ cs) = deleted cs

-- the pods that the set owns or adopts
abbrev pub own : Hand → Data → Entries
own h set = own_pods set (may_adopt set (live h.reads h.key)) (pods_looked_at h)

-- what is deleted is one of these pods, by its uid
abbrev pub DeletesOwn : Entries → Command → Type 0
DeletesOwn pods (delete k u v p) = (d : Data) × Contains pods (k, d) × (u ≡ uid d)
DeletesOwn pods c = Unit {0}

-- ---- laws of plans

-- no pod is deleted but the set's own, and by its uid
abbrev pub OnlyOwnPodsAreDeleted : Type 0
OnlyOwnPodsAreDeleted = (h : Hand) (set : Data) → set_looked_at h ≡ Some set → AllByRecursion (DeletesOwn (own h set)) (plan h)

-- no more pods are created than are missing
abbrev pub OnlyMissingPodsAreCreated : Type 0
OnlyMissingPodsAreCreated = (h : Hand) (set : Data) → set_looked_at h ≡ Some set → created (plan h) ≤ replicas set - length (own h set)

-- no more are deleted than are too many
abbrev pub OnlySurplusPodsAreDeleted : Type 0
OnlySurplusPodsAreDeleted = (h : Hand) (set : Data) → set_looked_at h ≡ Some set → deleted (plan h) ≤ length (own h set) - replicas set

-- no plan both creates pods and deletes some
abbrev pub NeverBoth : Type 0
NeverBoth = (h : Hand) → (created (plan h) ≡ 0) ⊎ (deleted (plan h) ≡ 0)

-- no plan creates or deletes more than 500
abbrev pub TurnsAreBounded : Type 0
TurnsAreBounded = (h : Hand) → (created (plan h) ≤ 500) × (deleted (plan h) ≤ 500)

-- while pods are expected that have not been seen, none is created or deleted
abbrev pub ExpectedPodsAreAwaited : Type 0
ExpectedPodsAreAwaited = (h : Hand) → h.is_satisfied ≡ false → (created (plan h) ≡ 0) × (deleted (plan h) ≡ 0)

-- for a set that is not there nothing is done
abbrev pub GoneSetsAreLeft : Type 0
GoneSetsAreLeft = (h : Hand) → set_looked_at h ≡ None → plan h ≡ []

-- ---- laws of those that are deleted

-- the pods that stay
abbrev pub staying : ℕ → Entries → Entries
staying wanted pods = drop (surplus wanted pods) (ranked pods)

-- no pod that stays ranks before one that is deleted
abbrev pub LowestGo : Type 0
LowestGo =
    (wanted : ℕ) (pods : Entries) → AllByRecursion (λ v. AllByRecursion (λ p. is_lt (rank_cmp (rank pods p) (rank pods v)) ≡ false) (staying wanted pods)) (victims wanted pods)

-- each pod is deleted or stays, once; and as many are deleted as are too many, up to 500
abbrev pub PodsGoOrStay : Type 0
PodsGoOrStay = (wanted : ℕ) (pods : Entries) → IsPermutation pods (victims wanted pods ++ staying wanted pods) × (length (victims wanted pods) ≡ surplus wanted pods)

-- of two pods with different keys one ranks before the other
abbrev pub RanksAreTotal : Type 0
RanksAreTotal = IsTotalOrder rank_cmp × ((a b : Rank) → rank_cmp a b ≡ Equal → a.key ≡ b.key)
