-- The laws of ReplicaSets' plans.
use Rattle.std.proofs.Common.{◌≡◌, ◌≤◌, ◌<◌, ◌-◌, ◌⊎◌, inl, inr, ℕ, zero, suc, List, [], ◌∷◌, ◌++◌, length, map, min, nat_lt, replicate, Bool, true, false, ◌&&◌, Option, Some, None, refl, sym, ap, subst, if◌then◌else◌, not, arith}
use Rattle.std.proofs.lemmas.Bool.Decides.{nat_tests}
use Rattle.std.proofs.lemmas.List.{take-append-drop}
use Rattle.std.proofs.lemmas.List.Sorted.{IsPermutation-sym, Contains-permutation}
use Rattle.std.specs.Cmp.{on_total}
use Rattle.std.specs.List.{AllByRecursion, Contains}
use Rattle.std.specs.List.Sorted.{IsPermutation}
use Rattle.serde_json.specs.Data.{Data}
use Rattle.spec_api.specs.declared.kinds.Kind.TheVariants.{Pod}
use Rattle.spec_api.specs.History.{Entries}
use Rattle.spec_api.specs.Keys.{Key}
use Rattle.spec_api.specs.Metadata.{is_being_deleted}
use Rattle.spec_client_go.specs.Commands.{Command, create, update, update_status}
use Rattle.spec_client_go.specs.Hands.{Hand, live}
use Rattle.spec_reconcile.specs.NewPods.{new_pod}
use Rattle.spec_reconcile.specs.PodClaims.{adopted, claim, claims, is_adoptable, is_released, may_adopt, own_pods, released}
use Rattle.spec_reconcile.specs.PodRanks.{missing, rank, ranked, surplus, victims}
use Rattle.spec_reconcile.specs.ReplicaSets.{delete_pod, plan, plan_of, plan_with, pods_looked_at, replicas, report, scale, scale_if, set_looked_at}
use Rattle.spec_reconcile.proofs.RankOrder.{rank_total, rank_tells}
use Rattle.spec_laws.specs.ReplicaSetLaws.{created, deleted, own, DeletesOwn, OnlyOwnPodsAreDeleted, OnlyMissingPodsAreCreated, OnlySurplusPodsAreDeleted, NeverBoth, TurnsAreBounded, ExpectedPodsAreAwaited, LowestGo, PodsGoOrStay, RanksAreTotal}
use Rattle.spec_laws.proofs.Counted.{Harmless, AtMost, plan_at_most, awaited_harmless, ranked_permutes, length_victims}
use Rattle.spec_laws.proofs.Permuted.{all_taken, all_joined, all_contained, lowest_first}

-- ---- the plan, where the set is there and where it is not

abbrev plan_for : Hand → Data → List Command
plan_for h set = plan_with h.is_satisfied h.key set (may_adopt set (live h.reads h.key)) (pods_looked_at h)

plan_is : (h : Hand) (set : Data) → set_looked_at h ≡ Some set → plan h ≡ plan_for h set
plan_is h set e = ap (plan_of h) e

plan_at : (P : List Command → Type 0) (h : Hand) (o : Option Data) → P [] → ((set : Data) → P (plan_for h set)) → P (plan_of h o)
plan_at P h None none some = none
plan_at P h (Some set) none some = some set

plan_by : (P : List Command → Type 0) (h : Hand) → P [] → ((set : Data) → P (plan_for h set)) → P (plan h)
plan_by P h none some = plan_at P h (set_looked_at h) none some

at_most : (h : Hand) (set : Data) → AtMost (missing (replicas set) (own h set)) (surplus (replicas set) (own h set)) (plan_for h set)
at_most h set = plan_at_most h.is_satisfied h.key set (may_adopt set (live h.reads h.key)) (pods_looked_at h)

-- ---- how many

within : (n m : ℕ) → n ≤ min m 500 → n ≤ m
within n m h = omega arith

bounded : (n m : ℕ) → n ≤ min m 500 → n ≤ 500
bounded n m h = omega arith

pub only_missing_pods_are_created : OnlyMissingPodsAreCreated
only_missing_pods_are_created h set e =
    let n = replicas set - length (own h set) in
    subst (λ (cs : List Command). created cs ≤ n) (sym (plan_is h set e)) (within (created (plan_for h set)) n (at_most h set).creates)

pub only_surplus_pods_are_deleted : OnlySurplusPodsAreDeleted
only_surplus_pods_are_deleted h set e =
    let n = length (own h set) - replicas set in
    subst (λ (cs : List Command). deleted cs ≤ n) (sym (plan_is h set e)) (within (deleted (plan_for h set)) n (at_most h set).deletes)

pub turns_are_bounded : TurnsAreBounded
turns_are_bounded h =
    plan_by (λ cs. (created cs ≤ 500) × (deleted cs ≤ 500)) h (omega arith, omega arith)
    (λ set. (bounded (created (plan_for h set)) (replicas set - length (own h set)) (at_most h set).creates, bounded (deleted (plan_for h set)) (length (own h set) - replicas set) (at_most h set).deletes))

one_is_none-at : (r n c d : ℕ) (b : Bool) → nat_lt n r ≡ b → c ≤ min (r - n) 500 → d ≤ min (n - r) 500 → (c ≡ 0) ⊎ (d ≡ 0)
one_is_none-at r n c d true e p q = let l : n < r = grind (arith, nat_tests) in inr (omega arith)
one_is_none-at r n c d false e p q = let l : r ≤ n = grind (arith, nat_tests) in inl (omega arith)

pub never_both : NeverBoth
never_both h =
    plan_by (λ cs. (created cs ≡ 0) ⊎ (deleted cs ≡ 0)) h (inl refl)
    (λ set. one_is_none-at (replicas set) (length (own h set)) (created (plan_for h set)) (deleted (plan_for h set)) (nat_lt (length (own h set)) (replicas set)) refl (at_most h set).creates (at_most h set).deletes)

awaited : (h : Hand) (set : Data) → h.is_satisfied ≡ false → Harmless (plan_for h set)
awaited h set e =
    subst (λ (s : Bool). Harmless (plan_with s h.key set (may_adopt set (live h.reads h.key)) (pods_looked_at h))) (sym e) (awaited_harmless h.key set (may_adopt set (live h.reads h.key)) (pods_looked_at h))

pub expected_pods_are_awaited : ExpectedPodsAreAwaited
expected_pods_are_awaited h e =
    plan_by (λ cs. (created cs ≡ 0) × (deleted cs ≡ 0)) h (refl, refl) (λ set. ((awaited h set e).creates, (awaited h set e).deletes))

-- ---- which

claim_own : (pods : Entries) (b c : Bool) (k : Key) (d e : Data) → AllByRecursion (DeletesOwn pods) (if b then update k d ∷ [] else (if c then update k e ∷ [] else []))
claim_own pods true c k d e = (tt, tt)
claim_own pods false true k d e = (tt, tt)
claim_own pods false false k d e = tt

claims_own : (pods : Entries) (k : Key) (set : Data) (m : Bool) (ps : Entries) → AllByRecursion (DeletesOwn pods) (claims k set m ps)
claims_own pods k set m [] = tt
claims_own pods k set m (p ∷ ps) =
    all_joined (DeletesOwn pods) (claim k set m p) (claims k set m ps)
    (claim_own pods (is_released set p.1) (m && is_adoptable set p.1) p.0 (released set p.1) (adopted k set p.1)) (claims_own pods k set m ps)

report_own : (pods : Entries) (b : Bool) (k : Key) (d : Data) → AllByRecursion (DeletesOwn pods) (if b then [] else update_status k d ∷ [])
report_own pods true k d = tt
report_own pods false k d = (tt, tt)

creates_own : (pods : Entries) (n : ℕ) (ns : List ℕ) (d : Data) → AllByRecursion (DeletesOwn pods) (replicate n (create Pod ns d))
creates_own pods zero ns d = tt
creates_own pods (suc n) ns d = (tt, creates_own pods n ns d)

deletes_own : (pods ps : Entries) → AllByRecursion (Contains pods) ps → AllByRecursion (DeletesOwn pods) (map delete_pod ps)
deletes_own pods [] h = tt
deletes_own pods (p ∷ ps) h = ((p.1, h.0, refl), deletes_own pods ps h.1)

victims_own : (wanted : ℕ) (pods : Entries) → AllByRecursion (Contains pods) (victims wanted pods)
victims_own wanted pods =
    all_taken (Contains pods) (surplus wanted pods) (ranked pods)
    (all_contained (Contains pods) (ranked pods) (λ z k. Contains-permutation (ranked pods) pods z (IsPermutation-sym pods (ranked pods) (ranked_permutes pods)) k))

scale_own : (k : Key) (set : Data) (pods : Entries) → AllByRecursion (DeletesOwn pods) (scale k set pods)
scale_own k set pods =
    all_joined (DeletesOwn pods) (replicate (missing (replicas set) pods) (create Pod k.namespace (new_pod k set))) (map delete_pod (victims (replicas set) pods))
    (creates_own pods (missing (replicas set) pods) k.namespace (new_pod k set)) (deletes_own pods (victims (replicas set) pods) (victims_own (replicas set) pods))

scale_if_own : (b : Bool) (pods : Entries) (cs : List Command) → AllByRecursion (DeletesOwn pods) cs → AllByRecursion (DeletesOwn pods) (if b then cs else [])
scale_if_own true pods cs h = h
scale_if_own false pods cs h = tt

plan_own : (s : Bool) (k : Key) (set : Data) (m : Bool) (ps : Entries) → AllByRecursion (DeletesOwn (own_pods set m ps)) (plan_with s k set m ps)
plan_own s k set m ps =
    let pods = own_pods set m ps in
    all_joined (DeletesOwn pods) (claims k set m ps) (scale_if s k set pods ++ report k set pods) (claims_own pods k set m ps)
    (all_joined (DeletesOwn pods) (scale_if s k set pods) (report k set pods)
    (scale_if_own (s && not (is_being_deleted set)) pods (scale k set pods) (scale_own k set pods)) (report_own pods _ _ _))

pub only_own_pods_are_deleted : OnlyOwnPodsAreDeleted
only_own_pods_are_deleted h set e =
    subst (λ (cs : List Command). AllByRecursion (DeletesOwn (own h set)) cs) (sym (plan_is h set e)) (plan_own h.is_satisfied h.key set (may_adopt set (live h.reads h.key)) (pods_looked_at h))

-- ---- ranks

pub lowest_go : LowestGo
lowest_go wanted pods = lowest_first (on_total (rank pods) rank_total) (surplus wanted pods) pods

pub pods_go_or_stay : PodsGoOrStay
pods_go_or_stay wanted pods =
    let P : List (Key × Data) → Type 0 = λ ps. IsPermutation pods ps in
    (subst P (sym (take-append-drop (surplus wanted pods) (ranked pods))) (ranked_permutes pods), length_victims wanted pods)

pub ranks_are_total : RanksAreTotal
ranks_are_total = (rank_total, rank_tells)
