-- A Deployment's plan, where nothing is to be done, reads only what owes a look at it.
use Rattle.std.proofs.Common.{◌≡◌, ◌⊎◌, ◌<◌, ◌+◌, ◌&&◌, ◌++◌, inl, inr, ℕ, List, [], ◌∷◌, Bool, true, false, true≢false, cond, not, filter, map, bytes_eq, codes, is_some, nat_lt, Option, Some, None, option_and_then, refl, sym, ap, subst, ◌∙◌, if◌then◌else◌}
use Rattle.std.proofs.lemmas.Slice.Eq.{bytes_eq-Decides}
use Rattle.std.proofs.lemmas.Bool.{lt-ltb}
use Rattle.std.specs.List.{AllByRecursion, list_any}
use Rattle.serde_json.specs.Data.{Data, put}
use Rattle.spec_api.specs.declared.kinds.Kind.TheVariants.{Pod, ReplicaSet, Deployment}
use Rattle.spec_api.specs.Checks.{in_spec}
use Rattle.spec_api.specs.Defaults.{is_rolling_update, unsigned_value}
use Rattle.spec_api.specs.History.{Entries, found}
use Rattle.spec_api.specs.Keys.{Key}
use Rattle.spec_api.specs.Metadata.{owners, uid}
use Rattle.spec_api.specs.SelectorValues.{is_some_and}
use Rattle.reconcile_locality_laws.proofs.Elements.{not_true}
use Rattle.spec_api.proofs.Truths.{and_true, both_true}
use Rattle.spec_client_go.specs.declared.controller.Controller.TheVariants as controller
use Rattle.spec_client_go.specs.Commands.{Command, update_status}
use Rattle.spec_client_go.specs.Hands.{Hand}
use Rattle.spec_client_go.specs.Informers.{Looks, of_namespace}
use Rattle.spec_client_go.specs.OwedKeys.{deployments_if, deployments_of_pod, deployments_over}
use Rattle.spec_client_go.specs.OwnerReferences.{controller_keys, controllers, controls_as, is_text, key_named, namespace_of, refers_to}
use Rattle.spec_reconcile.specs.Counts.{count_in_status}
use Rattle.spec_reconcile.specs.Deployments.{Rollout, clean_up, count_collision, first_of, go_on, has_running_pods, is_going_on, is_managed_by, is_name_taken, is_over, managed, new_name, and_old, pace_of, plan, plan_for, plan_of, recreate, renew_whole, report, roll, roll_with, rollout, rollout_of, scale_each, age_cmp}
use Rattle.spec_reconcile.specs.Orders.{in_order}
use Rattle.spec_reconcile.specs.Statuses.{status, with_status}
use Rattle.reconcile_locality_laws.specs.Differences.{AreNamed, Led, OwesNone, change}
use Rattle.reconcile_locality_laws.specs.DeploymentLocality.{AreDeploymentTurns, DeploymentsStaySettled, KeepsName, ShowsSets}
use Rattle.reconcile_locality_laws.proofs.Elements.{In, in_flat_map, in_filter, was_in, any_in, in_any, all_in, each_in}
use Rattle.reconcile_locality_laws.proofs.Maps.{Fails, ascending_from, found_in, in_found, same_left}
use Rattle.reconcile_locality_laws.proofs.Owing.{owed_deployment, in_one, in_old, in_new}
use Rattle.reconcile_locality_laws.proofs.References.{own, owns, unchanged, controller_is_named, controlling, reference_named, named_as, some_true}
use Rattle.spec_laws.proofs.SetLists.{all_sets}
use Rattle.reconcile_locality_laws.proofs.SetTurns.{parts_none}

-- ---- lists

-- a filter after another is one filter
filters : {A : Type 0} (p q : A → Bool) (xs : List A) → filter p (filter q xs) ≡ filter (λ x. q x && p x) xs
filters p q [] = refl
filters p q (x ∷ xs) = by (q x) (filters p q xs)
  where
    by : (b : Bool) → filter p (filter q xs) ≡ filter (λ x. q x && p x) xs → filter p (cond b (x ∷ filter q xs) (filter q xs)) ≡ cond (b && p x) (x ∷ filter (λ x. q x && p x) xs) (filter (λ x. q x && p x) xs)
    by true rest = ap (λ ys. cond (p x) (x ∷ ys) ys) rest
    by false rest = rest

pub first_none : (xs ys : List Command) → first_of xs ys ≡ [] → (xs ≡ []) × (ys ≡ [])
first_none [] ys h = (refl, h)
first_none (x ∷ xs) ys h = cc

none_first : (xs ys : List Command) → xs ≡ [] → ys ≡ [] → first_of xs ys ≡ []
none_first [] ys p q = q
none_first (x ∷ xs) ys p q = cc

-- a collision is counted, but at the greatest count
pub counts_up : (r : Rollout) (n : ℕ) → n < 2147483647 → count_collision r n ≡ [] → ⊥
counts_up r n low none = by (nat_lt n 2147483647) (lt-ltb n 2147483647 low) none
  where
    by : (b : Bool) → b ≡ true → cond b (update_status r.key (with_status (put (codes "collisionCount") (unsigned_value (n + 1)) (status r.deployment)) r.deployment) ∷ []) [] ≡ [] → ⊥
    by true is none = cc
    by false is none = cc

-- ---- two turns

module _ (h j : Hand) (d : Data) (t : AreDeploymentTurns h j d) where
  is_deployment : h.key.kind ≡ Deployment
  is_deployment = ap (λ (x : Key). x.kind) (sym (own Deployment h.looks.deployments h.key d t.deployments t.looked_at))

  -- ---- the Deployment

  same_deployment : found h.key h.looks.deployments ≡ found h.key j.looks.deployments
  same_deployment =
      let led = t.unowed_deployments h.key in
      unchanged (OwesNone controller.Deployment h.key (λ l. Unit {0})) Deployment h.key (λ old new w i. w.2 (owed_deployment (change Deployment old new) w.0 h.key i)) led.0
      (found h.key h.looks.deployments) (found h.key j.looks.deployments) (owns Deployment h.looks.deployments h.key t.deployments) led.1

  pub later_found : found h.key j.looks.deployments ≡ Some d
  later_found = sym same_deployment ∙ t.looked_at

  -- ---- its sets

  abbrev is_its : Key × Data → Bool
  is_its m = bytes_eq m.0.namespace h.key.namespace && is_managed_by d m.1

  owned_named : (ms : Entries) (x : Key) (s : Data) → AreNamed h.key d ms → found x ms ≡ Some s → is_managed_by d s ≡ true → In (controller_keys Deployment s) h.key
  owned_named ms x s named at is = controller_is_named Deployment h.key d ms (x, s) is_deployment named (found_in x ms s at) is

  module _ (x : Key) where
    abbrev Either : Type 0
    Either = (found x h.looks.replica_sets ≡ found x j.looks.replica_sets) ⊎ (Fails is_its x (found x h.looks.replica_sets) × Fails is_its x (found x j.looks.replica_sets))

    fails : (o : Option Data) → ((s : Data) → o ≡ Some s → is_managed_by d s ≡ true → ⊥) → Fails is_its x o
    fails None none = tt
    fails (Some s) none = not_true (is_its (x, s)) (λ is. none s refl (both_true (bytes_eq x.namespace h.key.namespace) (is_managed_by d s) is).1)

    abbrev Step : Option Data → List (Option Data) → Type 0
    Step old os = Led (OwesNone controller.Deployment h.key (λ l. Unit {0})) ReplicaSet x old os (found x j.looks.replica_sets)

    last_fails : (os : List (Option Data)) (old o : Option Data) → Step old (o ∷ os) → Fails is_its x (found x j.looks.replica_sets)
    last_fails [] old o led =
        fails (found x j.looks.replica_sets)
        (λ s at is. let c = change ReplicaSet old o in led.0.2 (owed_deployment c led.0.0 h.key (in_new (controller_keys Deployment) c s h.key (led.2 ∙ at) (owned_named j.looks.replica_sets x s t.later_named at is))))
    last_fails (p ∷ os) old o led = last_fails os o p led.2

    set_either : Either
    set_either = by (t.unowed_sets x).0 (t.unowed_sets x).1
      where
        by : (os : List (Option Data)) → Step (found x h.looks.replica_sets) os → Either
        by [] same = inl same
        by (o ∷ os) led =
            let c = change ReplicaSet (found x h.looks.replica_sets) o in
            inr (
              fails (found x h.looks.replica_sets) (λ s at is. led.0.2 (owed_deployment c led.0.0 h.key (in_old (controller_keys Deployment) c s h.key at (owned_named h.looks.replica_sets x s t.named at is)))),
              last_fails os (found x h.looks.replica_sets) o led,
            )

  same_managed : managed h.key.namespace d h.looks.replica_sets ≡ managed h.key.namespace d j.looks.replica_sets
  same_managed =
      filters (λ (m : Key × Data). is_managed_by d m.1) (λ (m : Key × Data). bytes_eq m.0.namespace h.key.namespace) h.looks.replica_sets
      ∙ same_left is_its h.looks.replica_sets j.looks.replica_sets (ascending_from h.looks.replica_sets t.sets.in_order) (ascending_from j.looks.replica_sets t.later_sets.in_order) set_either
      ∙ sym (filters (λ (m : Key × Data). is_managed_by d m.1) (λ (m : Key × Data). bytes_eq m.0.namespace h.key.namespace) j.looks.replica_sets)

  abbrev r : Rollout
  r = rollout h.key d h.looks.replica_sets

  same_rollout : rollout h.key d j.looks.replica_sets ≡ r
  same_rollout = ap (λ ss. rollout_of h.key d (in_order age_cmp ss)) (sym same_managed)

  -- ---- pods of its old sets

  -- one of its sets that was looked at
  abbrev IsSet : Key × Data → Type 0
  IsSet s = (found s.0 h.looks.replica_sets ≡ Some s.1) × (is_managed_by d s.1 ≡ true)

  managed_set : (s : Key × Data) → In (managed h.key.namespace d h.looks.replica_sets) s → IsSet s
  managed_set s i =
      let was = was_in (λ (m : Key × Data). is_managed_by d m.1) (of_namespace h.key.namespace h.looks.replica_sets) s i in
      let there = was_in (λ (m : Key × Data). bytes_eq m.0.namespace h.key.namespace) h.looks.replica_sets s was.0 in
      (in_found h.looks.replica_sets s (ascending_from h.looks.replica_sets t.sets.in_order) there.0, was.1)

  sets_all : AllByRecursion IsSet (and_old r.new r.old)
  sets_all = all_sets IsSet h.key d h.looks.replica_sets (each_in IsSet (managed h.key.namespace d h.looks.replica_sets) managed_set)

  old_all : AllByRecursion IsSet r.old
  old_all = by r.new sets_all
    where
      by : (o : Option (Key × Data)) → AllByRecursion IsSet (and_old o r.old) → AllByRecursion IsSet r.old
      by None a = a
      by (Some new) a = a.1

  module _ (s : Key × Data) (is : IsSet s) where
    set_kind : s.0.kind ≡ ReplicaSet
    set_kind = ap (λ (x : Key). x.kind) (sym (own ReplicaSet h.looks.replica_sets s.0 s.1 t.sets is.0))

    module _ (p : Key × Data) (there : In h.looks.pods p) (controls : is_managed_by s.1 p.1 ≡ true) where
      -- a pod that one of its sets controls owes a look at it, as it was
      pod_owes : (l : Looks) → ShowsSets h d l → In (deployments_of_pod l.replica_sets p.1) h.key
      pod_owes l shows =
          let one = controlling s.1 p.1 controls in
          let o = one.0 in
          let two = named_as ReplicaSet s.0 (namespace_of p.1) o set_kind (reference_named s.0 s.1 h.looks.pods p o (t.pods_named s.0 s.1 is.0) there one.1 one.3) in
          let of = some_true (λ u. is_text u o.uid) (uid s.1) one.3 in
          let said = some_true (bytes_eq of.0) o.uid of.2 in
          let same : said.0 ≡ of.0 = sym ((bytes_eq-Decides of.0 said.0).0 said.2) in
          let matches : is_some_and (λ u. is_text u (uid s.1)) o.uid ≡ true =
          ap (is_some_and (λ u. is_text u (uid s.1))) said.1 ∙ ap (is_text said.0) of.1 ∙ (bytes_eq-Decides said.0 of.0).1 same
          in
          let over : option_and_then (λ k. found k l.replica_sets) (key_named (namespace_of p.1) ReplicaSet o.name) ≡ Some s.1 =
          ap (option_and_then (λ k. found k l.replica_sets)) two.1 ∙ shows s.0 s.1 is.0 is.1
          in
          let its = owned_named h.looks.replica_sets s.0 s.1 t.named is.0 is.1 in
          let if_it : In (deployments_if o.uid s.1) h.key = subst (λ b. In (cond b (controller_keys Deployment s.1) []) h.key) (sym matches) its in
          in_flat_map (deployments_over l.replica_sets (namespace_of p.1)) (controllers ReplicaSet p.1) o h.key
          (in_filter (controls_as ReplicaSet) (owners p.1) o (and_true o.is_controller (refers_to ReplicaSet o) one.2 two.0) one.1)
          (in_one (deployments_if o.uid) (option_and_then (λ k. found k l.replica_sets) (key_named (namespace_of p.1) ReplicaSet o.name)) s.1 h.key over if_it)

      pod_stays : In j.looks.pods p
      pod_stays = by (t.unowed_pods p.0).0 (t.unowed_pods p.0).1
        where
          at : found p.0 h.looks.pods ≡ Some p.1
          at = in_found h.looks.pods p (ascending_from h.looks.pods t.pods) there

          by : (os : List (Option Data)) → Led (OwesNone controller.Deployment h.key (ShowsSets h d)) Pod p.0 (found p.0 h.looks.pods) os (found p.0 j.looks.pods) → In j.looks.pods p
          by [] same = found_in p.0 j.looks.pods p.1 (sym same ∙ at)
          by (o ∷ os) led =
              let c = change Pod (found p.0 h.looks.pods) o in
              absurd (led.0.2 (owed_deployment c led.0.0 h.key (in_one (deployments_of_pod led.0.0.replica_sets) c.old p.1 h.key at (pod_owes led.0.0 led.0.1))))

    abbrev runs : Entries → Bool
    runs pods = has_running_pods h.key.namespace pods s

    still_runs : runs h.looks.pods ≡ true → runs j.looks.pods ≡ true
    still_runs some =
        let one = any_in (λ (p : Key × Data). not (is_over p.1)) (managed h.key.namespace s.1 h.looks.pods) some in
        let p = one.0 in
        let was = was_in (λ (m : Key × Data). is_managed_by s.1 m.1) (of_namespace h.key.namespace h.looks.pods) p one.1 in
        let there = was_in (λ (m : Key × Data). bytes_eq m.0.namespace h.key.namespace) h.looks.pods p was.0 in
        in_any (λ (p : Key × Data). not (is_over p.1)) (managed h.key.namespace s.1 j.looks.pods) p
        (in_filter (λ (m : Key × Data). is_managed_by s.1 m.1) (of_namespace h.key.namespace j.looks.pods) p was.1
        (in_filter (λ (m : Key × Data). bytes_eq m.0.namespace h.key.namespace) j.looks.pods p there.1 (pod_stays p there.0 was.1))) one.2

  abbrev any_runs : Entries → Bool
  any_runs pods = list_any (has_running_pods h.key.namespace pods) r.old

  some_runs : any_runs h.looks.pods ≡ true → any_runs j.looks.pods ≡ true
  some_runs some =
      let one = any_in (has_running_pods h.key.namespace h.looks.pods) r.old some in
      in_any (has_running_pods h.key.namespace j.looks.pods) r.old one.0 one.1 (still_runs one.0 (all_in IsSet r.old one.0 old_all one.1) one.2)

  -- ---- its plan

  abbrev later_steps : List Command
  later_steps = first_of (renew_whole r r.new) (clean_up r)

  recreate_none : recreate r h.looks.pods ≡ [] → recreate r j.looks.pods ≡ []
  recreate_none none =
      let scaling = scale_each r.old (map (λ (s : Key × Data). 0) r.old) in
      let two = first_none scaling (if any_runs h.looks.pods then [] else later_steps) none in
      none_first scaling (if any_runs j.looks.pods then [] else later_steps) two.0 (by (any_runs h.looks.pods) (any_runs j.looks.pods) refl refl two.1)
    where
      by : (a b : Bool) → any_runs h.looks.pods ≡ a → any_runs j.looks.pods ≡ b → cond a [] later_steps ≡ [] → cond b [] later_steps ≡ []
      by a true p q none = refl
      by true false p q none = absurd (true≢false (sym (some_runs p) ∙ q))
      by false false p q none = none

  abbrev is_rolled : Bool
  is_rolled = is_some_and is_rolling_update (in_spec (codes "strategy") d)

  go_on_none : go_on r h.looks.pods ≡ [] → go_on r j.looks.pods ≡ []
  go_on_none = by is_rolled
    where
      by : (b : Bool) → cond b (roll r) (recreate r h.looks.pods) ≡ [] → cond b (roll r) (recreate r j.looks.pods) ≡ []
      by true none = none
      by false none = recreate_none none

  -- a Deployment that is rolled and has no new set makes one
  makes_one : is_rolled ≡ true → not (is_some r.new) ≡ true → go_on r h.looks.pods ≡ [] → ⊥
  makes_one rolled missing none = by r.new missing (ap (λ b. cond b (roll r) (recreate r h.looks.pods)) (sym rolled) ∙ none)
    where
      by : (o : Option (Key × Data)) → not (is_some o) ≡ true → roll_with r (pace_of d) o ≡ [] → ⊥
      by None missing none = cc
      by (Some new) missing none = cc

  abbrev taken : Hand → Bool
  taken x = is_name_taken r x.looks.replica_sets

  not_taken : taken h ≡ false → go_on r h.looks.pods ≡ [] → taken j ≡ true → ⊥
  not_taken free none is = by t.keeps_name
    where
      by : KeepsName h j d → ⊥
      by (inl rolled) = makes_one rolled (both_true (not (is_some r.new)) (is_some (found (record { kind = ReplicaSet; namespace = r.key.namespace; name = new_name r }) j.looks.replica_sets)) is).0 none
      by (inr keeps) = true≢false (sym (keeps (ap (λ r. is_name_taken r j.looks.replica_sets) same_rollout ∙ is)) ∙ free)

  still_none : plan_for r h.looks ≡ [] → plan_for r j.looks ≡ []
  still_none = by (is_going_on d) (taken h) (taken j) refl refl
    where
      by : (a b c : Bool) → taken h ≡ b → taken j ≡ c → cond (not a) (report r) (cond b (count_collision r (count_in_status (codes "collisionCount") d)) (go_on r h.looks.pods ++ report r)) ≡ []
          → cond (not a) (report r) (cond c (count_collision r (count_in_status (codes "collisionCount") d)) (go_on r j.looks.pods ++ report r)) ≡ []
      by false b c p q none = none
      by true true c p q none = absurd (counts_up r (count_in_status (codes "collisionCount") d) t.collisions none)
      by true false true p q none = absurd (not_taken p (parts_none (go_on r h.looks.pods) (report r) none).0 q)
      by true false false p q none = let two = parts_none (go_on r h.looks.pods) (report r) none in ap (λ cs. cs ++ report r) (go_on_none two.0) ∙ two.1

  later_plan : plan j ≡ plan_for r j.looks
  later_plan = ap (λ k. plan_of k j.looks (found k j.looks.deployments)) t.one_key ∙ ap (plan_of h.key j.looks) later_found ∙ ap (λ r. plan_for r j.looks) same_rollout

pub stay_settled : DeploymentsStaySettled
stay_settled h j d t none = later_plan h j d t ∙ still_none h j d t (ap (plan_of h.key h.looks) (sym t.looked_at) ∙ none)
