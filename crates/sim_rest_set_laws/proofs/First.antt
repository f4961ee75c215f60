-- The first command of a ReplicaSet's plan owes its key.
use Rattle.std.proofs.Common.{◌≡◌, ◌&&◌, inl, not, ℕ, List, [], ◌∷◌, ◌++◌, codes, bytes_eq, Bool, true, false, Option, Some, None, refl, sym, ap, ◌∙◌, subst, arith}
use Rattle.std.proofs.lemmas.Slice.Eq.{bytes_eq-Decides}
use Rattle.std.specs.List.{AllByRecursion}
use Rattle.serde_json.specs.Data.{Data, object}
use Rattle.spec_api.proofs.Truths.{both_true, left_true, right_true}
use Rattle.spec_api.specs.declared.kinds.Kind.TheVariants.{Pod, ReplicaSet}
use Rattle.spec_api.specs.DeleteOptions.{Options}
use Rattle.spec_api.specs.History.{History, Entries, state, present, found}
use Rattle.spec_api.specs.Keys.{Key}
use Rattle.spec_api.specs.Metadata.{is_being_deleted, uid}
use Rattle.spec_api.specs.Reached.{IsReached}
use Rattle.spec_api.specs.Replacements.{says_the_same}
use Rattle.spec_api.specs.SelectorValues.{is_some_and}
use Rattle.spec_api.specs.Verbs.{accept}
use Rattle.spec_client_go.specs.declared.controller.Controller.{Controller}
use Rattle.spec_client_go.specs.declared.controller.Controller.TheVariants.{ReplicaSet as SetController, Deployment as DeploymentController, Collector}
use Rattle.spec_client_go.specs.Commands.{Command, create, delete, update, update_status, request_of}
use Rattle.spec_client_go.specs.Hands.{Hand, live}
use Rattle.spec_client_go.specs.Informers.{Looks, of_namespace}
use Rattle.spec_client_go.specs.OwnerReferences.{has_controller, is_controlled_by}
use Rattle.spec_client_go.specs.WorkQueues.{WorkKey}
use Rattle.spec_laws.specs.AskedLaws.{CanBeAsked, AllCanBeAsked}
use Rattle.spec_laws.proofs.AskedPlans.{plans_asked}
use Rattle.spec_laws.proofs.DeploymentPlans.{all_both}
use Rattle.spec_laws.proofs.Reaching.{past}
use Rattle.spec_reconcile.specs.NewPods.{new_pod}
use Rattle.spec_reconcile.specs.PodClaims.{is_released, released, is_adoptable, adopted, may_adopt}
use Rattle.spec_reconcile.specs.Pods.{is_active, is_orphan, is_owned, matches, phase}
use Rattle.spec_reconcile.specs.ReplicaSets as replica_sets
use Rattle.spec_reconcile.specs.ReplicaSets.{new_status, plan_of, plan_with, status, with_status}
use Rattle.spec_sim.specs.ControlPlanes.{ControlPlane, Step}
use Rattle.spec_sim.specs.Managers.{answer_of}
use Rattle.spec_sim.specs.Turns.{Turn, hand, is_accepted, plan_by, shown, version_answered, was_satisfied}
use Rattle.sim_worker_laws.specs.IssuedLaws.{IsSeen, WasThere}
use Rattle.sim_worker_laws.proofs.Growing.{state_stands}
use Rattle.sim_rest_laws.specs.OwedObjectLaws.{LooksAfter}
use Rattle.sim_rest_laws.specs.StillLaws.{ShownIn}
use Rattle.sim_rest_laws.specs.WholeLaws.{ReferencesAreTrue, AreServerLists}
use Rattle.sim_rest_command_laws.specs.CommandLaws.{Unowed, WasUnowed, Controls, IsCounted, as_it_was, counts}
use Rattle.sim_rest_command_laws.specs.FirstCommandLaws.{PassesBy, FirstCommandsOweOf}
use Rattle.sim_rest_command_laws.proofs.Controlled.{controlled, owned_by, releases as releases_owe}
use Rattle.sim_rest_command_laws.proofs.Deletes.{deletes as deletes_owe}
use Rattle.sim_rest_command_laws.proofs.Leads.{before, own_coming}
use Rattle.sim_rest_command_laws.proofs.Listed.{Listed, passed, shown_listed}
use Rattle.sim_rest_command_laws.proofs.Reports.{reports as reports_owe}
use Rattle.sim_rest_create_laws.proofs.Creates.{pod_creates}
use Rattle.sim_rest_set_laws.proofs.Adopts.{adoption_owes}
use Rattle.sim_rest_set_laws.proofs.Begins.{Begins, releases, adopts, creates, deletes, reports, plan_begins}
use Rattle.sim_rest_set_laws.proofs.Looked.{Leads, shown_leads, found_leads, are_looks, of_server}

-- ---- truth values

not_true : (b : Bool) → not b ≡ true → b ≡ false
not_true true e = cc
not_true false e = refl

lives : (e : Data) → is_active e ≡ true → is_being_deleted e ≡ false
lives e is = not_true (is_being_deleted e) (right_true (not (bytes_eq (phase e) (codes "Succeeded")) && not (bytes_eq (phase e) (codes "Failed"))) (not (is_being_deleted e)) is)

-- ---- by cases

module _ (h g more : History) (moment : List ℕ) (answer : Option (List ℕ)) (j : WorkKey) (set : Data) (q : ControlPlane) (since : List Step) (begins : h ≡ g ++ more) (reached : IsReached h)
    (refs_true : ReferencesAreTrue h) (servers : AreServerLists h (ShownIn q since)) (of_sets : j.controller ≡ SetController) (is_set : j.key.kind ≡ ReplicaSet)
    (end : state h (present h) j.key ≡ Some set) where
  abbrev Shown : Looks → Type 0
  Shown = ShownIn q since

  -- a pod of the namespace that was looked at
  abbrev pub IsPod : Key × Data → Type 0
  IsPod e = (Listed h (ShownIn q since) set j.key refs_true servers end e × Leads h g j (ShownIn q since) servers Pod e) × (bytes_eq e.0.namespace j.key.namespace ≡ true)

  -- a command that is accepted, of which what it writes owes the key nothing
  abbrev pub IsQuiet : Command → Type 0
  IsQuiet x = (is_accepted (answer_of (accept (request_of answer x) g moment)) ≡ true) × WasUnowed j (ShownIn q since) h g (accept (request_of answer x) g moment)

  controls : (x : Key) → x.kind ≡ Pod → Controls j x
  controls x pod = inl (of_sets, is_set, pod)

  of_released : (e : Key × Data) → IsPod e → is_released set e.1 ≡ true → IsQuiet (update e.0 (released set e.1)) → ⊥
  of_released e p is quiet =
      let l = p.0.0 in releases_owe h g more moment j e.0 set e.1 l.0.0 q since begins reached (controls e.0 p.0.1.0) l.1 l.0.1 is quiet.0 quiet.1

  of_adopted : (e : Key × Data) → IsPod e → is_adoptable set e.1 ≡ true → CanBeAsked (update e.0 (adopted j.key set e.1)) → IsQuiet (update e.0 (adopted j.key set e.1)) → ⊥
  of_adopted e p is parsed quiet =
      let l = p.0.0 in
      let orphan : is_orphan e.1 ≡ true = right_true (not (is_being_deleted set)) (is_orphan e.1) (left_true (not (is_being_deleted set) && is_orphan e.1) (matches set e.1) is) in
      let live_one = lives e.1 (left_true (is_active e.1) (not (has_controller e.1)) orphan) in
      let same_ns : e.0.namespace ≡ j.key.namespace = (bytes_eq-Decides e.0.namespace j.key.namespace).0 p.1 in
      adoption_owes h g more moment j e.0 set e.1 l.0.0 begins reached l.0.1 live_one parsed is_set same_ns q since of_sets p.0.1.0 quiet.0 quiet.1

  of_deleted : (e : Key × Data) → IsPod e → is_owned set e.1 ≡ true → IsQuiet (delete e.0 (uid e.1) None None) → ⊥
  of_deleted e p is quiet =
      let l = p.0.0 in
      let two = both_true (is_active e.1) (is_some_and (λ u. is_controlled_by u e.1) (uid set)) is in
      let z = owned_by set e.1 (uid set) refl two.1 in
      let o : Options = record { uid = uid e.1; version = None; policy = None } in
      let same_now : state h (present g) e.0 ≡ state g (present g) e.0 = ap (λ (l : History). state l (present g) e.0) begins ∙ state_stands g more (present g) e.0 (omega arith) in
      let lead : Unowed j Shown e.0 (Some e.1) (state g (present g) e.0) = subst (λ (v : Option Data). Unowed j Shown e.0 (Some e.1) v) same_now p.0.1.1 in
      deletes_owe h g more moment j e.0 o e.1 q since begins reached (controlled j e.0 set e.1 z.0 (controls e.0 p.0.1.0) l.1 z.1 z.2) lead (lives e.1 two.0) quiet.0 quiet.1

  of_reported : (own : Entries) → says_the_same (object (status set)) (object (new_status set own)) ≡ false → CanBeAsked (update_status j.key (with_status (new_status set own) set))
      → IsQuiet (update_status j.key (with_status (new_status set own) set)) → ⊥
  of_reported own another parsed quiet =
      let after : LooksAfter j.controller j.key.kind = subst (λ (c : Controller). LooksAfter c j.key.kind) (sym of_sets) is_set in
      let lead : Unowed j Shown j.key (Some set) (state h (present h) j.key) = ([], sym end, tt) in
      let counted : IsCounted (status set) (new_status set own) = counts _ _ _ (counts _ _ _ (counts _ _ _ (counts _ _ _ as_it_was))) in
      reports_owe h g more moment j set set (new_status set own) q since begins reached after (inl is_set) end lead counted parsed another quiet.0 quiet.1

  by_begins : (x c : Command) → Begins IsPod j.key set c → x ≡ c → CanBeAsked x → IsQuiet x → ⊥
  by_begins x _ (releases e p is) one asked quiet = of_released e p is (subst IsQuiet one quiet)
  by_begins x _ (adopts e p is) one asked quiet = of_adopted e p is (subst CanBeAsked one asked) (subst IsQuiet one quiet)
  by_begins x _ creates one asked quiet = let z : IsQuiet (create Pod j.key.namespace (new_pod j.key set)) = subst IsQuiet one quiet in pod_creates h g moment j set q since of_sets is_set z.0 z.1
  by_begins x _ (deletes e p is) one asked quiet = of_deleted e p is (subst IsQuiet one quiet)
  by_begins x _ (reports own another) one asked quiet = of_reported own another (subst CanBeAsked one asked) (subst IsQuiet one quiet)

  -- what was looked at of pods
  pods_are : (t : Turn) → AllByRecursion (IsSeen (PassesBy h g j (ShownIn q since))) t.sights → AllByRecursion IsPod (of_namespace j.key.namespace (shown Pod t.sights))
  pods_are t seen =
      passed (λ (e : Key × Data). Listed h Shown set j.key refs_true servers end e × Leads h g j Shown servers Pod e) (λ m. bytes_eq m.0.namespace j.key.namespace) (shown Pod t.sights)
      (all_both (Listed h Shown set j.key refs_true servers end) (Leads h g j Shown servers Pod) (shown Pod t.sights)
      (shown_listed h Shown set j.key refs_true servers end Pod t.sights (are_looks h g j Shown servers t.sights seen)) (shown_leads h g j Shown servers Pod t.sights seen))

-- ---- the plan

sets_plan : (c : Controller) (h : Hand) → c ≡ SetController → plan_by c h ≡ replica_sets.plan h
unfolding plan_by
sets_plan SetController h e = refl
sets_plan DeploymentController h e = cc
sets_plan Collector h e = cc

module _ (h g more : History) (j : WorkKey) (t : Turn) (d : Data) (q : ControlPlane) (since : List Step) (begins : h ≡ g ++ more) (reached : IsReached h) (servers : AreServerLists h (ShownIn q since))
    (of_sets : j.controller ≡ SetController) (after : j.key.kind ≡ ReplicaSet) (end : state h (present h) j.key ≡ Some d) (seen : AllByRecursion (IsSeen (PassesBy h g j (ShownIn q since))) t.sights) where
  -- the set that was looked at is there in the end
  stays : (set : Data) → found j.key (shown ReplicaSet t.sights) ≡ Some set → state h (present h) j.key ≡ Some set
  stays set at =
      let two = found_leads h g j (ShownIn q since) servers ReplicaSet t.sights j.key set seen after at in
      let own = own_coming j h d reached (subst (λ (c : Controller). LooksAfter c j.key.kind) (sym of_sets) after) end in
      let was : state h (present g) j.key ≡ Some d =
      before j (ShownIn q since) j.key (state h (present g) j.key) d own (subst (λ (v : Option Data). Unowed j (ShownIn q since) j.key (state h (present g) j.key) v) end two.1) in
      end ∙ sym (before j (ShownIn q since) j.key (Some set) d own (subst (λ (v : Option Data). Unowed j (ShownIn q since) j.key (Some set) v) was two.0))

  -- each command of the plan can be asked
  plan_asked : AllByRecursion (WasThere g) t.reads → AllCanBeAsked (replica_sets.plan (hand t))
  plan_asked there = plans_asked.of_replica_sets (hand t) (of_server h g j (ShownIn q since) servers t reached (past g more (subst IsReached begins reached)) seen there)

pub sets_first : FirstCommandsOweOf SetController
sets_first h g more moment j t x rest d q since begins reached refs_true servers still of_sets after key end order seen lead there asks plan none ok unowed =
    by (found t.work_key.key (shown ReplicaSet t.sights)) refl planned
  where
    planned : replica_sets.plan (hand t) ≡ x ∷ rest
    planned = sym (sets_plan t.work_key.controller (hand t) (ap (λ (k : WorkKey). k.controller) key ∙ of_sets)) ∙ plan

    asked : CanBeAsked x
    asked = (subst AllCanBeAsked planned (plan_asked h g more j t d q since begins reached servers of_sets after end seen there)).0

    by : (o : Option Data) → found t.work_key.key (shown ReplicaSet t.sights) ≡ o → plan_of (hand t) (found t.work_key.key (shown ReplicaSet t.sights)) ≡ x ∷ rest → ⊥
    by None is e = let nothing : [] ≡ x ∷ rest = sym (ap (plan_of (hand t)) is) ∙ e in cc
    by (Some set) is e =
        let same_key : t.work_key.key ≡ j.key = ap (λ (k : WorkKey). k.key) key in
        let of_set : plan_of (hand t) (Some set) ≡ x ∷ rest = sym (ap (plan_of (hand t)) is) ∙ e in
        let of_key : plan_with (was_satisfied t.sights) j.key set (may_adopt set (live t.reads j.key)) (of_namespace j.key.namespace (shown Pod t.sights)) ≡ x ∷ rest =
        subst (λ (k : Key). plan_with (was_satisfied t.sights) k set (may_adopt set (live t.reads k)) (of_namespace k.namespace (shown Pod t.sights)) ≡ x ∷ rest) same_key of_set in
        let now = stays h g more j t d q since begins reached servers of_sets after end seen set (subst (λ (k : Key). found k (shown ReplicaSet t.sights) ≡ Some set) same_key is) in
        let answer = version_answered t.issues in
        let pods = pods_are h g more moment answer j set q since begins reached refs_true servers of_sets after now t seen in
        by_begins h g more moment answer j set q since begins reached refs_true servers of_sets after now x x
        (plan_begins (IsPod h g more moment answer j set q since begins reached refs_true servers of_sets after now) j.key set (may_adopt set (live t.reads j.key)) (was_satisfied t.sights)
        (of_namespace j.key.namespace (shown Pod t.sights)) x rest pods of_key)
        refl asked (ok, unowed)
