-- A pod that a ReplicaSet creates owes its key, by the reference that is stored of it.
use Rattle.std.proofs.Common.{◌≡◌, inl, ◌+◌, ℕ, List, [], ◌∷◌, flat_map, true, unwrap_or, Option, Some, None, refl, sym, ap, ◌∙◌, subst}
use mathlib.Core.Bool.{true≢false}
use Rattle.serde_json.specs.Data.{Data}
use Rattle.spec_api.specs.declared.kinds.Kind.{Kind}
use Rattle.spec_api.specs.declared.kinds.Kind.TheVariants.{Pod, ReplicaSet}
use Rattle.spec_api.specs.History.{History, Write, present, state, found, entries_at}
use Rattle.spec_api.specs.Keys.{Key}
use Rattle.spec_api.specs.Metadata.{uid}
use Rattle.spec_api.specs.NewObjects.{created}
use Rattle.spec_api.specs.ObjectRequests.{create_object}
use Rattle.spec_api.specs.Reading.{reading}
use Rattle.spec_api.specs.Verbs.{Outcome, accept, write_of, object_in, new_name}
use Rattle.spec_client_go.specs.declared.controller.Controller.{Controller}
use Rattle.spec_client_go.specs.declared.controller.Controller.TheVariants as controller
use Rattle.spec_client_go.specs.Expectations.{Owner}
use Rattle.spec_client_go.specs.OwedKeys.{keys_of, one_of, of_both, adopters, sets_to_look_by}
use Rattle.spec_client_go.specs.OwnerReferences.{namespace_of, controllers, controller_keys}
use Rattle.spec_client_go.specs.WorkQueues.{WorkKey}
use Rattle.spec_laws.proofs.Cases.{of_create}
use Rattle.spec_laws.proofs.VerbLaws.{found-state, none_from}
use Rattle.spec_reconcile.specs.NewPods.{new_pod}
use Rattle.spec_sim.specs.ControlPlanes.{change_of}
use Rattle.spec_sim.specs.Managers.{answer_of}
use Rattle.spec_sim.specs.PodObservations.{sets_of}
use Rattle.spec_sim.specs.Turns.{is_accepted}
use Rattle.sim_worker_laws.specs.OwedLaws.{IsAmong}
use Rattle.sim_rest_laws.specs.StillLaws.{ShownIn}
use Rattle.sim_rest_laws.proofs.OwedObjects.{in_left, in_right, owed_set}
use Rattle.sim_rest_laws.proofs.Unmet.{keys_from}
use Rattle.sim_rest_command_laws.specs.CommandLaws.{Unowed}
use Rattle.sim_rest_command_laws.proofs.Leads.{EachComingOwes, before}
use Rattle.sim_overshoot_laws.proofs.Strangers.{new_pods_are_of_their_set, plain}
use Rattle.sim_rest_create_laws.specs.CreateLaws.{PodCreatesOwe}

-- a change to a pod that names the set owes its key
pub coming : (j : WorkKey) (x : Key) (new : Data) → j.controller ≡ controller.ReplicaSet → x.kind ≡ Pod → IsAmong j.key (controller_keys ReplicaSet new) → EachComingOwes j x new
coming j x new of_sets pod among s l same is =
    let c = change_of s in
    let in_new : IsAmong j.key (flat_map (controller_keys ReplicaSet) (one_of s.new)) =
    subst (λ (v : Option Data). IsAmong j.key (flat_map (controller_keys ReplicaSet) (one_of v))) (sym is) (in_left j.key (controller_keys ReplicaSet new) [] among) in
    let of_pod : IsAmong j.key (sets_to_look_by Pod l (change_of s)) =
    in_left j.key (of_both (controller_keys ReplicaSet) (change_of s)) (flat_map (adopters l.replica_sets) (one_of s.new))
    (in_right j.key (flat_map (controller_keys ReplicaSet) (one_of s.old)) (flat_map (controller_keys ReplicaSet) (one_of s.new)) in_new) in
    let kind_is : Pod ≡ s.key.kind = sym pod ∙ ap (λ (y : Key). y.kind) (sym same) in
    subst (λ (w : Controller). IsAmong (record { controller = w; key = j.key }) (keys_of (change_of s) l)) (sym of_sets)
    (owed_set (change_of s) l j.key (subst (λ (k : Kind). IsAmong j.key (sets_to_look_by k l (change_of s))) kind_is of_pod))

-- what an accepted create makes
record Makes (g : History) (k : Key) (o : Outcome) : Type 0 where
  pub write : Write
  pub new : Data
  pub wrote : write_of o ≡ Some write
  pub put : write.put ≡ Some new
  pub pod : write.key.kind ≡ Pod
  pub free : state g (present g) write.key ≡ None
  pub names : IsAmong k (controller_keys ReplicaSet new)

made : (g : History) (moment : List ℕ) (k : Key) (set : Data) → k.kind ≡ ReplicaSet
    → (let o = accept (create_object Pod k.namespace (new_pod k set)) g moment in is_accepted (answer_of o) ≡ true → Makes g k o)
made g moment k set is =
    of_create (λ u. is_accepted (answer_of u) ≡ true → Makes g k u) (λ f e. absurd (true≢false (sym e))) Pod k.namespace (object_in Pod (new_pod k set)) (entries_at g (present g)) (present g) moment
    (λ o read valid fits free room e.
    let n = new_name Pod k.namespace o (entries_at g (present g)) (present g) in
    let new = created Pod (present g + 1) k.namespace n.name moment o in
    let p : Owner = record { key = k; uid = unwrap_or (uid set) [] } in
    let sets : sets_of new ≡ p ∷ [] = new_pods_are_of_their_set k set o (present g + 1) n.name moment is (plain (reading Pod (new_pod k set)) o read) in
    record {
      write = record { key = n; put = Some new };
      new = new;
      wrote = refl;
      put = refl;
      pod = refl;
      free = sym (found-state g n) ∙ none_from (found n (entries_at g (present g))) free;
      names = keys_from (namespace_of new) (controllers ReplicaSet new) p (subst (IsAmong p) (sym sets) (inl refl));
    })

pub pod_creates : PodCreatesOwe
pod_creates h g moment j set q since of_sets is ok unowed =
    let Shown = ShownIn q since in
    let m = made g moment j.key set is ok in
    let w = m.write in
    let u : Unowed j Shown w.key (state g (present g) w.key) (Some m.new) = subst (λ (v : Option Data). Unowed j Shown w.key (state g (present g) w.key) v) m.put (unowed w m.wrote).0 in
    let there : state g (present g) w.key ≡ Some m.new = before j Shown w.key (state g (present g) w.key) m.new (coming j w.key m.new of_sets m.pod m.names) u in nothing (sym m.free ∙ there)
  where
    nothing : {d : Data} → None ≡ Some d → ⊥
    nothing e = cc
