-- A ReplicaSet that a Deployment creates owes its key, by the reference that is stored of it.
use Rattle.std.proofs.Common.{◌≡◌, inl, ◌+◌, ℕ, List, [], ◌∷◌, flat_map, true, Option, Some, None, refl, sym, ap, ◌∙◌, subst}
use mathlib.Core.Bool.{true≢false}
use Rattle.serde_json.specs.Data.{Data}
use Rattle.spec_api.specs.declared.kinds.Kind.{Kind}
use Rattle.spec_api.specs.declared.kinds.Kind.TheVariants.{ReplicaSet, Deployment}
use Rattle.spec_api.specs.History.{History, Write, present, state, found, entries_at}
use Rattle.spec_api.specs.Keys.{Key}
use Rattle.spec_api.specs.NewObjects.{created}
use Rattle.spec_api.specs.ObjectRequests.{create_object}
use Rattle.spec_api.specs.Verbs.{Outcome, accept, write_of, object_in, new_name}
use Rattle.spec_client_go.specs.declared.controller.Controller.{Controller}
use Rattle.spec_client_go.specs.declared.controller.Controller.TheVariants as controller
use Rattle.spec_client_go.specs.Informers.{Looks}
use Rattle.spec_client_go.specs.OwedKeys.{keys_of, one_of, deployments_to_look_by}
use Rattle.spec_client_go.specs.OwnerReferences.{controller_keys}
use Rattle.spec_client_go.specs.WorkQueues.{WorkKey}
use Rattle.spec_laws.proofs.Cases.{of_create}
use Rattle.spec_laws.proofs.VerbLaws.{found-state, none_from}
use Rattle.spec_reconcile.specs.Deployments.{Rollout, new_object}
use Rattle.spec_sim.specs.ControlPlanes.{change_of}
use Rattle.spec_sim.specs.Managers.{answer_of}
use Rattle.spec_sim.specs.Turns.{is_accepted}
use Rattle.sim_worker_laws.specs.OwedLaws.{IsAmong}
use Rattle.sim_rest_laws.proofs.OwedObjects.{in_left, in_right, owed_deployment}
use Rattle.sim_rest_command_laws.specs.CommandLaws.{Unowed, WasUnowed}
use Rattle.sim_rest_command_laws.proofs.Leads.{EachComingOwes, before}
use Rattle.sim_rest_deployment_laws.proofs.StoredSets.{names_deployment}

-- a change to a set that names the Deployment owes its key
coming : (j : WorkKey) (x : Key) (new : Data) → j.controller ≡ controller.Deployment → x.kind ≡ ReplicaSet → controller_keys Deployment new ≡ j.key ∷ [] → EachComingOwes j x new
coming j x new of_deployments set names s l same is =
    let c = change_of s in
    let among : IsAmong j.key (controller_keys Deployment new) = subst (IsAmong j.key) (sym names) (inl refl) in
    let in_new : IsAmong j.key (flat_map (controller_keys Deployment) (one_of s.new)) =
    subst (λ (v : Option Data). IsAmong j.key (flat_map (controller_keys Deployment) (one_of v))) (sym is) (in_left j.key (controller_keys Deployment new) [] among) in
    let of_set : IsAmong j.key (deployments_to_look_by ReplicaSet l (change_of s)) =
    in_right j.key (flat_map (controller_keys Deployment) (one_of s.old)) (flat_map (controller_keys Deployment) (one_of s.new)) in_new in
    let kind_is : ReplicaSet ≡ s.key.kind = sym set ∙ ap (λ (y : Key). y.kind) (sym same) in
    subst (λ (w : Controller). IsAmong (record { controller = w; key = j.key }) (keys_of (change_of s) l)) (sym of_deployments)
    (owed_deployment (change_of s) l j.key (subst (λ (k : Kind). IsAmong j.key (deployments_to_look_by k l (change_of s))) kind_is of_set))

-- what an accepted create makes
record Makes (g : History) (k : Key) (o : Outcome) : Type 0 where
  pub write : Write
  pub new : Data
  pub wrote : write_of o ≡ Some write
  pub put : write.put ≡ Some new
  pub set : write.key.kind ≡ ReplicaSet
  pub free : state g (present g) write.key ≡ None
  pub names : controller_keys Deployment new ≡ k ∷ []

made : (g : History) (moment : List ℕ) (r : Rollout) (n : ℕ) → r.key.kind ≡ Deployment
    → (let o = accept (create_object ReplicaSet r.key.namespace (new_object r n)) g moment in is_accepted (answer_of o) ≡ true → Makes g r.key o)
made g moment r n is =
    of_create (λ u. is_accepted (answer_of u) ≡ true → Makes g r.key u) (λ f e. absurd (true≢false (sym e))) ReplicaSet r.key.namespace (object_in ReplicaSet (new_object r n)) (entries_at g (present g)) (present g) moment
    (λ o read valid fits free room e.
    let name = new_name ReplicaSet r.key.namespace o (entries_at g (present g)) (present g) in
    let new = created ReplicaSet (present g + 1) r.key.namespace name.name moment o in
    record {
      write = record { key = name; put = Some new };
      new = new;
      wrote = refl;
      put = refl;
      set = refl;
      free = sym (found-state g name) ∙ none_from (found name (entries_at g (present g))) free;
      names = names_deployment r n o read (present g + 1) name.name moment is;
    })

-- an accepted create of the set that a Deployment's turn plans owes its key
pub set_creates : (h g : History) (moment : List ℕ) (j : WorkKey) (r : Rollout) (n : ℕ) (Shown : Looks → Type 0) → j.controller ≡ controller.Deployment → r.key ≡ j.key → j.key.kind ≡ Deployment
    → (let o = accept (create_object ReplicaSet r.key.namespace (new_object r n)) g moment in is_accepted (answer_of o) ≡ true → WasUnowed j Shown h g o → ⊥)
set_creates h g moment j r n Shown of_deployments key is ok unowed =
    let m = made g moment r n (ap (λ (k : Key). k.kind) key ∙ is) ok in
    let w = m.write in
    let u : Unowed j Shown w.key (state g (present g) w.key) (Some m.new) = subst (λ (v : Option Data). Unowed j Shown w.key (state g (present g) w.key) v) m.put (unowed w m.wrote).0 in
    let there : state g (present g) w.key ≡ Some m.new = before j Shown w.key (state g (present g) w.key) m.new (coming j w.key m.new of_deployments m.set (m.names ∙ ap (λ k. k ∷ []) key)) u in nothing (sym m.free ∙ there)
  where
    nothing : {d : Data} → None ≡ Some d → ⊥
    nothing e = cc
