-- The Deployment controller's plan: what it commands for one Deployment, of what a worker has looked at in its turn (Kubernetes, Deployments).
use Rattle.std.specs.Prelude.{ℕ, pos, ◌+◌, ◌-◌, ◌==◌, ◌&&◌, ◌||◌, ◌^◌, min, nat_lt, nat_le, not, length, List, [], ◌∷◌, ◌++◌, map, take, filter, find, Bool, false, Option, Some, None, is_some, codes, unwrap_or, option_and_then, if◌then◌else◌}
use Rattle.std.specs.Cmp.Lexicographic.{slice_cmp}
use Rattle.std.specs.List.{list_any}
use Rattle.std.specs.Ordering.{nat_cmp, then_cmp, on}
use Rattle.std.specs.Str.{bytes_eq}
use Rattle.std.specs.declared.cmp.Ordering.{Ordering}
use Rattle.serde_json.specs.Data.{Data, Members as Fields, object, no_members, put}
use Rattle.serde_json.specs.Find.{get, as_bool}
use Rattle.spec_api.specs.declared.amounts.Amount.{Amount}
use Rattle.spec_api.specs.declared.amounts.Amount.TheVariants.{Pods}
use Rattle.spec_api.specs.declared.kinds.Kind.TheVariants.{ReplicaSet}
use Rattle.spec_api.specs.Checks.{amount, in_spec}
use Rattle.spec_api.specs.Defaults.{unsigned_value, is_rolling_update}
use Rattle.spec_api.specs.History.{Entries, found}
use Rattle.spec_api.specs.Keys.{Key, key_cmp}
use Rattle.spec_api.specs.Metadata.{is_being_deleted, uid}
use Rattle.spec_api.specs.Replacements.{generation}
use Rattle.spec_api.specs.SelectorValues.{is_some_and}
use Rattle.spec_api.specs.Values.{inner_of, members_of}
use Rattle.spec_client_go.specs.Commands.{Command, create, update, update_status, delete}
use Rattle.spec_client_go.specs.Hands.{Hand}
use Rattle.spec_client_go.specs.Informers.{Looks, of_namespace}
use Rattle.spec_client_go.specs.OwnerReferences.{is_controlled_by}
use Rattle.spec_reconcile.specs.Counts.{count_in_spec, count_in_status, replicas}
use Rattle.spec_reconcile.specs.MetadataEdits.{controller_reference}
use Rattle.spec_reconcile.specs.NewPods.{template}
use Rattle.spec_reconcile.specs.Orders.{in_order}
use Rattle.spec_reconcile.specs.PodRanks.{creation}
use Rattle.spec_reconcile.specs.Pods.{phase}
use Rattle.spec_reconcile.specs.Revisions.{revision, next_revision, annotated, raised}
use Rattle.spec_reconcile.specs.Rollouts.{total, asked, growth, pace, resized, shrunk}
use Rattle.spec_reconcile.specs.Statuses.{status, with_status, report_status}
use Rattle.spec_reconcile.specs.Templates.{is_same_template, template_hash, set_name, selector, new_set_metadata, new_set_spec}
use Rattle.spec_reconcile.specs.declared.rollouts.Pace.{Pace}
use Rattle.spec_reconcile.specs.declared.rollouts.Summary.{Summary}
use Rattle.spec_reconcile.specs.declared.rollouts.Tally.{Tally}

-- ---- its sets

-- whether a controller reference has the owner's uid
abbrev pub is_managed_by : Data → Data → Bool
is_managed_by owner d = is_some_and (λ u. is_controlled_by u d) (uid owner)

-- the objects of a namespace of which an object is the controller
abbrev pub managed : List ℕ → Data → Entries → Entries
managed ns owner ms = filter (λ m. is_managed_by owner m.1) (of_namespace ns ms)

-- by creationTimestamp, then by name
abbrev pub age_cmp : Key × Data → Key × Data → Ordering
age_cmp = then_cmp (on (λ (s : Key × Data). creation s.1) (slice_cmp nat_cmp)) (on (λ (s : Key × Data). s.0) key_cmp)

abbrev pub sets_of : Key → Data → Entries → Entries
sets_of k d ms = in_order age_cmp (managed k.namespace d ms)

abbrev pub has_its_template : Data → Key × Data → Bool
has_its_template d s = is_same_template (template d) (template s.1)

-- the first with the Deployment's template is the new one
abbrev pub new_set : Data → Entries → Option (Key × Data)
new_set d sets = find (has_its_template d) sets

-- the others are old
abbrev pub without_first : (Key × Data → Bool) → Entries → Entries
without_first test [] = []
without_first test (s ∷ ss) = if test s then ss else s ∷ without_first test ss

abbrev pub old_sets : Data → Entries → Entries
old_sets d sets = without_first (has_its_template d) sets

-- a Deployment with its sets
pub record Rollout : Type 0 where
  pub key : Key
  pub deployment : Data
  pub new : Option (Key × Data)
  pub old : Entries

abbrev pub rollout_of : Key → Data → Entries → Rollout
rollout_of k d sets = record { key = k; deployment = d; new = new_set d sets; old = old_sets d sets }

abbrev pub rollout : Key → Data → Entries → Rollout
rollout k d ms = rollout_of k d (sets_of k d ms)

abbrev pub and_old : Option (Key × Data) → Entries → Entries
and_old None old = old
and_old (Some new) old = new ∷ old

-- all its sets, the new one first
abbrev pub sets : Rollout → Entries
sets r = and_old r.new r.old

abbrev pub tally : Key × Data → Tally
tally s = record { replicas = replicas s.1; available = count_in_status (codes "availableReplicas") s.1 }

-- how many pods sets are to have
abbrev pub asked_by : Entries → ℕ
asked_by ss = total (asked (map tally ss))

-- the revision that is due to the new set: the one after those of the old sets
abbrev pub due : Rollout → ℕ
due r = next_revision (map (λ (s : Key × Data). revision s.1) r.old)

-- ---- the pace

abbrev pub rolling_amount : List ℕ → Data → Amount
rolling_amount k d =
    unwrap_or (option_and_then amount (option_and_then (get k) (option_and_then (get (codes "rollingUpdate")) (in_spec (codes "strategy") d)))) (Pods (pos 0))

abbrev pub pace_of : Data → Pace
pace_of d = pace (replicas d) (rolling_amount (codes "maxSurge") d) (rolling_amount (codes "maxUnavailable") d)

-- ---- sets made and scaled; an update names the version that was looked at, as the set does

abbrev pub with_replicas : ℕ → Data → Data
with_replicas n d = object (put (codes "spec") (object (put (codes "replicas") (unsigned_value n) (inner_of (get (codes "spec") d)))) (members_of d))

-- a set is updated where it is to have another number of pods
abbrev pub scale : Key × Data → ℕ → List Command
scale s n = if replicas s.1 == n then [] else update s.0 (with_replicas n s.1) ∷ []

abbrev pub scale_each : Entries → List ℕ → List Command
scale_each [] ns = []
scale_each (s ∷ ss) [] = []
scale_each (s ∷ ss) (n ∷ ns) = scale s n ++ scale_each ss ns

-- the new set is updated where it is to have another number of pods, or its revision is below the one due; once for both
abbrev pub renew : Key × Data → ℕ → ℕ → List Command
renew s n due =
    if (replicas s.1 == n) && not (nat_lt (revision s.1) due) then []
    else update s.0 (with_replicas n (raised due s.1)) ∷ []

abbrev pub hash_of : Data → List ℕ
hash_of d = template_hash (template d) (count_in_status (codes "collisionCount") d)

abbrev pub new_name : Rollout → List ℕ
new_name r = set_name r.key.name (hash_of r.deployment)

-- the new set, with so many pods
abbrev pub new_object : Rollout → ℕ → Data
new_object r n =
    object
    (put (codes "spec") (object (new_set_spec (selector r.deployment) (hash_of r.deployment) (template r.deployment) n))
    (put (codes "metadata")
    (object (new_set_metadata (new_name r) (controller_reference r.key r.deployment) (hash_of r.deployment) (template r.deployment) (annotated (due r) no_members))) no_members))

abbrev pub make : Rollout → ℕ → List Command
make r n = create ReplicaSet r.key.namespace (new_object r n) ∷ []

-- of cases, the first that commands something
abbrev pub first_of : List Command → List Command → List Command
first_of [] later = later
first_of (c ∷ cs) later = c ∷ cs

-- ---- the status (Kubernetes, Deployments, Deployment status)

abbrev pub sum_of : List ℕ → Entries → ℕ
sum_of k ss = total (map (λ (s : Key × Data). count_in_status k s.1) ss)

-- how many pods the new set has
abbrev pub updated_pods : Option (Key × Data) → ℕ
updated_pods None = 0
updated_pods (Some s) = count_in_status (codes "replicas") s.1

abbrev pub summary : Rollout → Summary
summary r =
    record {
      replicas = sum_of (codes "replicas") (sets r);
      ready = sum_of (codes "readyReplicas") (sets r);
      available = sum_of (codes "availableReplicas") (sets r);
      updated = updated_pods r.new;
      unavailable = asked_by (sets r) - sum_of (codes "availableReplicas") (sets r);
      generation = generation r.deployment;
    }

-- a count as a value; 64 bits hold every one that servers store
abbrev pub counted : ℕ → Data
counted n = unsigned_value (min n (2 ^ 64 - 1))

abbrev pub with_summary : Summary → Fields → Fields
with_summary c ms =
    put (codes "replicas") (counted c.replicas)
    (put (codes "readyReplicas") (counted c.ready)
    (put (codes "availableReplicas") (counted c.available)
    (put (codes "updatedReplicas") (counted c.updated)
    (put (codes "unavailableReplicas") (counted c.unavailable) (put (codes "observedGeneration") (counted c.generation) ms)))))

-- other members stay
abbrev pub report : Rollout → List Command
report r = report_status r.key r.deployment (with_summary (summary r) (status r.deployment))

-- ---- old sets that nobody needs (Kubernetes, Deployments, Clean up Policy)

-- a set has no pods and is to have none, and its controller has seen that
abbrev pub is_spent : Data → Bool
is_spent d = (replicas d == 0) && (count_in_status (codes "replicas") d == 0) && nat_le (generation d) (count_in_status (codes "observedGeneration") d)

-- the old sets that are not being deleted, by revision; of one revision, by age
abbrev pub history : Entries → Entries
history old = in_order (on (λ (s : Key × Data). revision s.1) nat_cmp) (filter (λ (s : Key × Data). not (is_being_deleted s.1)) old)

abbrev pub all_but_last : ℕ → Entries → Entries
all_but_last n ss = take (length ss - n) ss

-- a set is deleted by its uid, so that no other of its name is
abbrev pub delete_set : Key × Data → Command
delete_set s = delete s.0 (uid s.1) None None

-- of all but the last so many, those that are spent are deleted
abbrev pub forget : ℕ → Entries → List Command
forget limit old = map delete_set (filter (λ (s : Key × Data). is_spent s.1) (all_but_last limit (history old)))

-- all that are wanted are there, of the new template and available
abbrev pub is_complete : ℕ → Summary → Bool
is_complete wanted c = (c.updated == wanted) && (c.replicas == wanted) && (c.available == wanted)

abbrev pub clean_up : Rollout → List Command
clean_up r = if is_complete (replicas r.deployment) (summary r) then forget (count_in_spec (codes "revisionHistoryLimit") r.deployment) r.old else []

-- ---- a rolling update (Kubernetes, Deployments, Rolling Update Deployment)

-- the new set is made, else it is scaled, else the old ones are, else what nobody needs is deleted
abbrev pub roll_with : Rollout → Pace → Option (Key × Data) → List Command
roll_with r p None = make r (growth p (asked_by r.old) 0)
roll_with r p (Some new) =
    first_of (renew new (resized p (asked_by (new ∷ r.old)) (replicas new.1)) (due r))
    (first_of (scale_each r.old (shrunk p (tally new) (map tally r.old))) (clean_up r))

abbrev pub roll : Rollout → List Command
roll r = roll_with r (pace_of r.deployment) r.new

-- ---- old pods first, then new ones (Kubernetes, Deployments, Recreate Deployment)

abbrev pub is_over : Data → Bool
is_over pod = bytes_eq (phase pod) (codes "Succeeded") || bytes_eq (phase pod) (codes "Failed")

-- whether one of the set's pods is not over
abbrev pub has_running_pods : List ℕ → Entries → Key × Data → Bool
has_running_pods ns pods s = list_any (λ (p : Key × Data). not (is_over p.1)) (managed ns s.1 pods)

-- the new set gets all pods at once
abbrev pub renew_whole : Rollout → Option (Key × Data) → List Command
renew_whole r None = make r (replicas r.deployment)
renew_whole r (Some new) = renew new (replicas r.deployment) (due r)

-- the old sets go to 0; while one of their pods runs nothing more is done
abbrev pub recreate : Rollout → Entries → List Command
recreate r pods =
    first_of (scale_each r.old (map (λ (s : Key × Data). 0) r.old))
    (if list_any (has_running_pods r.key.namespace pods) r.old then [] else first_of (renew_whole r r.new) (clean_up r))

-- ---- the plan

-- neither being deleted nor paused (Kubernetes, Deployments, Pausing and Resuming a rollout of a Deployment)
abbrev pub is_going_on : Data → Bool
is_going_on d = not (is_being_deleted d) && not (unwrap_or (option_and_then as_bool (in_spec (codes "paused") d)) false)

abbrev pub go_on : Rollout → Entries → List Command
go_on r pods = if is_some_and is_rolling_update (in_spec (codes "strategy") r.deployment) then roll r else recreate r pods

-- the new set is to be made, and another has its name
abbrev pub is_name_taken : Rollout → Entries → Bool
is_name_taken r ms = not (is_some r.new) && is_some (found (record { kind = ReplicaSet; namespace = r.key.namespace; name = new_name r }) ms)

-- then the collision is counted, up to the greatest count, and gives the set another name in the next turn
abbrev pub count_collision : Rollout → ℕ → List Command
count_collision r n =
    if nat_lt n 2147483647 then update_status r.key (with_status (put (codes "collisionCount") (unsigned_value (n + 1)) (status r.deployment)) r.deployment) ∷ [] else []

-- the status is reported last, whatever was done
abbrev pub plan_for : Rollout → Looks → List Command
plan_for r l =
    if not (is_going_on r.deployment) then report r
    else (if is_name_taken r l.replica_sets then count_collision r (count_in_status (codes "collisionCount") r.deployment)
    else go_on r l.pods ++ report r)

-- where the Deployment is not there, nothing is done
abbrev pub plan_of : Key → Looks → Option Data → List Command
plan_of k l None = []
plan_of k l (Some d) = plan_for (rollout k d l.replica_sets) l

abbrev pub plan : Hand → List Command
plan h = plan_of h.key h.looks (found h.key h.looks.deployments)

-- nothing has to be read live
abbrev pub asks : Hand → List Key
asks h = []
