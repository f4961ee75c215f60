-- The first command of a ReplicaSet's plan, by cases, of pods that are so.
use Rattle.std.proofs.Common.{◌≡◌, ◌&&◌, ◌||◌, not, ℕ, zero, suc, List, [], ◌∷◌, ◌++◌, map, replicate, Bool, true, false, cond, None, refl, sym, ◌∙◌, subst}
use mathlib.Core.Bool.{true≢false}
use Rattle.std.specs.List.{AllByRecursion}
use Rattle.std.specs.Ordering.{on}
use Rattle.serde_json.specs.Data.{Data, object}
use Rattle.spec_api.proofs.Truths.{both_true, left_true}
use Rattle.spec_api.specs.declared.kinds.Kind.TheVariants.{Pod}
use Rattle.spec_api.specs.History.{Entries}
use Rattle.spec_api.specs.Keys.{Key}
use Rattle.spec_api.specs.Metadata.{is_being_deleted, uid}
use Rattle.spec_api.specs.Replacements.{says_the_same}
use Rattle.spec_client_go.specs.Commands.{Command, create, update, update_status, delete}
use Rattle.spec_laws.proofs.DeploymentPlans.{all_ordered}
use Rattle.spec_laws.proofs.Permuted.{all_taken}
use Rattle.spec_reconcile.specs.NewPods.{new_pod}
use Rattle.spec_reconcile.specs.PodClaims.{claims, is_own, is_released, released, is_adoptable, adopted, own_pods}
use Rattle.spec_reconcile.specs.PodRanks.{missing, victims, surplus, ranked, rank, rank_cmp}
use Rattle.spec_reconcile.specs.Pods.{is_owned, matches}
use Rattle.spec_reconcile.specs.ReplicaSets.{delete_pod, new_status, plan_with, replicas, report, scale, status, with_status}
use Rattle.sim_rest_command_laws.proofs.Listed.{passed}

-- a pod is released or adopted, or one is made; or one that the set owns is deleted; or the status says another one
pub data Begins (P : Key × Data → Type 0) (k : Key) (set : Data) : Command → Type 0 where
  releases : (e : Key × Data) → P e → is_released set e.1 ≡ true → Begins P k set (update e.0 (released set e.1))
  adopts : (e : Key × Data) → P e → is_adoptable set e.1 ≡ true → Begins P k set (update e.0 (adopted k set e.1))
  creates : Begins P k set (create Pod k.namespace (new_pod k set))
  deletes : (e : Key × Data) → P e → is_owned set e.1 ≡ true → Begins P k set (delete e.0 (uid e.1) None None)
  reports : (own : Entries) → says_the_same (object (status set)) (object (new_status set own)) ≡ false → Begins P k set (update_status k (with_status (new_status set own) set))

module _ (P : Key × Data → Type 0) (k : Key) (set : Data) (may : Bool) where
  abbrev First : List Command → Type 0
  First cs = (x : Command) (rest : List Command) → cs ≡ x ∷ rest → Begins P k set x

  of_cons : (c : Command) (cs : List Command) → Begins P k set c → First (c ∷ cs)
  of_cons c cs b x rest e = let one : c ≡ x = cc in subst (λ y. Begins P k set y) one b

  of_none : First []
  of_none x rest e = cc

  -- ---- the status

  of_report : (pods : Entries) → First (report k set pods)
  of_report pods = by (says_the_same (object (status set)) (object (new_status set pods))) refl
    where
      by : (b : Bool) → says_the_same (object (status set)) (object (new_status set pods)) ≡ b → First (cond b [] (update_status k (with_status (new_status set pods) set) ∷ []))
      by true is = of_none
      by false is = of_cons (update_status k (with_status (new_status set pods) set)) [] (reports pods is)

  -- ---- pods made and deleted

  -- a pod that is owned
  abbrev Owned : Key × Data → Type 0
  Owned e = P e × (is_owned set e.1 ≡ true)

  of_deletes : (gone pods : Entries) → AllByRecursion Owned gone → First (map delete_pod gone ++ report k set pods)
  of_deletes [] pods a = of_report pods
  of_deletes (e ∷ gone) pods a = of_cons (delete_pod e) (map delete_pod gone ++ report k set pods) (deletes e a.0.0 a.0.1)

  of_creates : (n : ℕ) (gone pods : Entries) → AllByRecursion Owned gone → First ((replicate n (create Pod k.namespace (new_pod k set)) ++ map delete_pod gone) ++ report k set pods)
  of_creates zero gone pods a = of_deletes gone pods a
  of_creates (suc n) gone pods a = of_cons (create Pod k.namespace (new_pod k set)) ((replicate n (create Pod k.namespace (new_pod k set)) ++ map delete_pod gone) ++ report k set pods) creates

  gone_owned : (pods : Entries) → AllByRecursion Owned pods → AllByRecursion Owned (victims (replicas set) pods)
  gone_owned pods a = all_taken Owned (surplus (replicas set) pods) (ranked pods) (all_ordered Owned (on (rank pods) rank_cmp) pods a)

  of_scale : (b : Bool) (pods : Entries) → AllByRecursion Owned pods → First (cond b (scale k set pods) [] ++ report k set pods)
  of_scale true pods a = of_creates (missing (replicas set) pods) (victims (replicas set) pods) pods (gone_owned pods a)
  of_scale false pods a = of_report pods

  -- ---- claims

  -- a pod that is not adopted
  abbrev Left : Key × Data → Type 0
  Left e = P e × ((may && is_adoptable set e.1) ≡ false)

  of_claims : (es : Entries) (rest : List Command) → AllByRecursion P es → (AllByRecursion Left es → First rest) → First (claims k set may es ++ rest)
  of_claims [] rest a later = later tt
  of_claims (e ∷ es) rest a later = by (is_released set e.1) refl (may && is_adoptable set e.1) refl (λ left. of_claims es rest a.1 (λ all. later ((a.0, left), all)))
    where
      by : (b : Bool) → is_released set e.1 ≡ b → (c : Bool) → (may && is_adoptable set e.1) ≡ c → ((may && is_adoptable set e.1) ≡ false → First (claims k set may es ++ rest))
          → First ((cond b (update e.0 (released set e.1) ∷ []) (cond c (update e.0 (adopted k set e.1) ∷ []) []) ++ claims k set may es) ++ rest)
      by true is c f others = of_cons (update e.0 (released set e.1)) (claims k set may es ++ rest) (releases e a.0 is)
      by false is true f others = of_cons (update e.0 (adopted k set e.1)) (claims k set may es ++ rest) (adopts e a.0 (both_true may (is_adoptable set e.1) f).1)
      by false is false f others = others f

  -- what is the set's own, and not adopted, is owned
  owned : (es : Entries) → AllByRecursion (λ e. Left e × (is_own set may e.1 ≡ true)) es → AllByRecursion Owned es
  owned [] a = tt
  owned (e ∷ es) a = ((a.0.0.0, left_true (is_owned set e.1) (matches set e.1) (first (is_owned set e.1 && matches set e.1) (may && is_adoptable set e.1) a.0.0.1 a.0.1)), owned es a.1)
    where
      first : (b c : Bool) → c ≡ false → (b || c) ≡ true → b ≡ true
      first true c none one = refl
      first false c none one = absurd (true≢false (sym one ∙ none))

  pub plan_begins : (satisfied : Bool) (es : Entries) (x : Command) (rest : List Command) → AllByRecursion P es → plan_with satisfied k set may es ≡ x ∷ rest → Begins P k set x
  plan_begins satisfied es x rest a e =
      let pods = own_pods set may es in
      of_claims es (cond (satisfied && not (is_being_deleted set)) (scale k set pods) [] ++ report k set pods) a
      (λ left. of_scale (satisfied && not (is_being_deleted set)) pods (owned pods (passed Left (λ m. is_own set may m.1) es left))) x rest e
