-- What the parts of a plan create and delete.
use Rattle.std.proofs.Common.{◌≡◌, ◌≤◌, ◌+◌, ℕ, zero, suc, List, [], ◌∷◌, ◌++◌, length, map, replicate, Bool, true, false, not, ◌&&◌, refl, ap, ◌∙◌, if◌then◌else◌, arith}
use Rattle.std.proofs.lemmas.List.{length-take}
use Rattle.std.proofs.lemmas.List.Sorted.{length_permutation}
use Rattle.std.specs.List.Sorted.{IsPermutation}
use Rattle.std.specs.Ordering.{on}
use Rattle.serde_json.specs.Data.{Data}
use Rattle.spec_api.specs.declared.kinds.Kind.TheVariants.{Pod}
use Rattle.spec_api.specs.History.{Entries}
use Rattle.spec_api.specs.Keys.{Key}
use Rattle.spec_api.specs.Metadata.{is_being_deleted}
use Rattle.spec_client_go.specs.Commands.{Command, create, update, update_status, delete}
use Rattle.spec_reconcile.specs.NewPods.{new_pod}
use Rattle.spec_reconcile.specs.PodClaims.{adopted, claim, claims, is_adoptable, is_released, own_pods, released}
use Rattle.spec_reconcile.specs.PodRanks.{missing, rank, rank_cmp, ranked, surplus, victims}
use Rattle.spec_reconcile.specs.ReplicaSets.{delete_pod, plan_with, replicas, report, scale, scale_if}
use Rattle.spec_laws.specs.ReplicaSetLaws.{created, deleted}
use Rattle.spec_laws.proofs.Permuted.{in_order_permutes}

pub created-append : (xs ys : List Command) → created (xs ++ ys) ≡ created xs + created ys
created-append [] ys = omega arith
created-append (create kind ns d ∷ xs) ys = let e = created-append xs ys in omega arith
created-append (update k d ∷ xs) ys = created-append xs ys
created-append (update_status k d ∷ xs) ys = created-append xs ys
created-append (delete k u v p ∷ xs) ys = created-append xs ys

pub deleted-append : (xs ys : List Command) → deleted (xs ++ ys) ≡ deleted xs + deleted ys
deleted-append [] ys = omega arith
deleted-append (create kind ns d ∷ xs) ys = deleted-append xs ys
deleted-append (update k d ∷ xs) ys = deleted-append xs ys
deleted-append (update_status k d ∷ xs) ys = deleted-append xs ys
deleted-append (delete k u v p ∷ xs) ys = let e = deleted-append xs ys in omega arith

-- ---- claims and reports do neither

-- what creates and deletes nothing
pub record Harmless (cs : List Command) : Type 0 where
  pub creates : created cs ≡ 0
  pub deletes : deleted cs ≡ 0

claim_at : (b c : Bool) (k : Key) (d e : Data) → Harmless (if b then update k d ∷ [] else (if c then update k e ∷ [] else []))
claim_at true c k d e = record { creates = refl; deletes = refl }
claim_at false true k d e = record { creates = refl; deletes = refl }
claim_at false false k d e = record { creates = refl; deletes = refl }

claim_harmless : (k : Key) (set : Data) (may : Bool) (p : Key × Data) → Harmless (claim k set may p)
claim_harmless k set may p = claim_at (is_released set p.1) (may && is_adoptable set p.1) p.0 (released set p.1) (adopted k set p.1)

pub claims_harmless : (k : Key) (set : Data) (may : Bool) (pods : Entries) → Harmless (claims k set may pods)
claims_harmless k set may [] = record { creates = refl; deletes = refl }
claims_harmless k set may (p ∷ ps) =
    let one = claim_harmless k set may p in
    let rest = claims_harmless k set may ps in
    record { creates = created-append (claim k set may p) (claims k set may ps) ∙ omega arith; deletes = deleted-append (claim k set may p) (claims k set may ps) ∙ omega arith }

report_at : (b : Bool) (k : Key) (d : Data) → Harmless (if b then [] else update_status k d ∷ [])
report_at true k d = record { creates = refl; deletes = refl }
report_at false k d = record { creates = refl; deletes = refl }

-- ---- what creates and deletes pods

created_replicate : (n : ℕ) (ns : List ℕ) (d : Data) → created (replicate n (create Pod ns d)) ≡ n
created_replicate zero ns d = refl
created_replicate (suc n) ns d = ap suc (created_replicate n ns d)

deleted_replicate : (n : ℕ) (ns : List ℕ) (d : Data) → deleted (replicate n (create Pod ns d)) ≡ 0
deleted_replicate zero ns d = refl
deleted_replicate (suc n) ns d = deleted_replicate n ns d

created_deletes : (ps : Entries) → created (map delete_pod ps) ≡ 0
created_deletes [] = refl
created_deletes (p ∷ ps) = created_deletes ps

deleted_deletes : (ps : Entries) → deleted (map delete_pod ps) ≡ length ps
deleted_deletes [] = refl
deleted_deletes (p ∷ ps) = ap suc (deleted_deletes ps)

pub ranked_permutes : (pods : Entries) → IsPermutation pods (ranked pods)
ranked_permutes pods = in_order_permutes (on (rank pods) rank_cmp) pods

pub length_victims : (wanted : ℕ) (pods : Entries) → length (victims wanted pods) ≡ surplus wanted pods
length_victims wanted pods =
    let same = length_permutation pods (ranked pods) (ranked_permutes pods) in
    let taken = length-take (surplus wanted pods) (ranked pods) in
    omega arith

-- at most so many are created, and deleted
pub record AtMost (more fewer : ℕ) (cs : List Command) : Type 0 where
  pub creates : created cs ≤ more
  pub deletes : deleted cs ≤ fewer

scale_at_most : (k : Key) (set : Data) (pods : Entries) → AtMost (missing (replicas set) pods) (surplus (replicas set) pods) (scale k set pods)
scale_at_most k set pods =
    let n = missing (replicas set) pods in
    let new = new_pod k set in
    let gone = victims (replicas set) pods in
    let a = created-append (replicate n (create Pod k.namespace new)) (map delete_pod gone) in
    let b = deleted-append (replicate n (create Pod k.namespace new)) (map delete_pod gone) in
    let c = created_replicate n k.namespace new in
    let d = deleted_replicate n k.namespace new in
    let e = created_deletes gone in
    let f = deleted_deletes gone ∙ length_victims (replicas set) pods in
    record { creates = omega arith; deletes = omega arith }

scale_if-at : (b : Bool) (m n : ℕ) (cs : List Command) → AtMost m n cs → AtMost m n (if b then cs else [])
scale_if-at true m n cs h = h
scale_if-at false m n cs h = record { creates = omega arith; deletes = omega arith }

pub plan_at_most : (s : Bool) (k : Key) (set : Data) (may : Bool) (pods : Entries)
    → AtMost (missing (replicas set) (own_pods set may pods)) (surplus (replicas set) (own_pods set may pods)) (plan_with s k set may pods)
plan_at_most s k set may pods =
    let own = own_pods set may pods in
    let first = claims_harmless k set may pods in
    let most = scale_if-at (s && not (is_being_deleted set)) (missing (replicas set) own) (surplus (replicas set) own) (scale k set own) (scale_at_most k set own) in
    let last : Harmless (report k set own) = report_at _ _ _ in
    let a = created-append (claims k set may pods) (scale_if s k set own ++ report k set own) in
    let b = deleted-append (claims k set may pods) (scale_if s k set own ++ report k set own) in
    let c = created-append (scale_if s k set own) (report k set own) in
    let d = deleted-append (scale_if s k set own) (report k set own) in
    record { creates = omega (arith, most.creates, first.creates, last.creates); deletes = omega (arith, most.deletes, first.deletes, last.deletes) }

pub awaited_harmless : (k : Key) (set : Data) (may : Bool) (pods : Entries) → Harmless (plan_with false k set may pods)
awaited_harmless k set may pods =
    let own = own_pods set may pods in
    let first = claims_harmless k set may pods in
    let last : Harmless (report k set own) = report_at _ _ _ in
    let a = created-append (claims k set may pods) (report k set own) in
    let b = deleted-append (claims k set may pods) (report k set own) in
    record { creates = omega (arith, first.creates, last.creates); deletes = omega (arith, first.deletes, last.deletes) }
