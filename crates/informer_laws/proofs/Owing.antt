-- Each key that is to be looked at is owed.
use Rattle.std.proofs.Common.{◌≡◌, ◌⊎◌, ◌++◌, inl, inr, ℕ, List, [], ◌∷◌, cond, map, filter, flat_map, sym, subst, arith}
use Rattle.std.proofs.lemmas.List.Elements.{Contains-append_cases, Contains-push_cases}
use Rattle.std.specs.List.{Contains}
use Rattle.serde_json.specs.Data.{Data}
use Rattle.spec_api.specs.declared.kinds.Kind.{Kind}
use Rattle.spec_api.specs.declared.kinds.Kind.TheVariants.{Pod, ReplicaSet}
use Rattle.spec_api.specs.History.{Entries}
use Rattle.spec_api.specs.Keys.{Key}
use Rattle.spec_api.specs.Metadata.{uid}
use Rattle.spec_client_go.specs.Informers.{Looks, of_namespace, of_owner}
use Rattle.spec_client_go.specs.OwedKeys.{Change, one_of, of_both, sets_to_look, sets_to_look_by, itself, dependents, dependents_in, dependents_left, dependents_unless, adopters, selects}
use Rattle.spec_client_go.specs.OwnerReferences.{namespace_of, controller_keys, owner_keys}
use Rattle.informer_laws.specs.OwedLaws.{IsOf, IsLookedAt, SelectingSetsAreOwed, ControllersAreOwed, OwnersAreOwed, DependentsAreOwed}
use Rattle.reconcile_locality_laws.proofs.Elements.{In, in_left, in_right, in_map, in_filter}
use Rattle.reconcile_locality_laws.proofs.Owing.{owed_set, owed_item, in_one}

-- ---- elements

none_there : {X : Type 0} (x : X) → Contains [] x → ⊥
none_there x c = omega (arith, c.1)

the_one : {X : Type 0} (y x : X) → Contains (y ∷ []) x → y ≡ x
the_one y x c = by (Contains-push_cases [] y x c)
  where
    by : Contains [] x ⊎ (y ≡ x) → y ≡ x
    by (inl none) = absurd (none_there x none)
    by (inr is) = is

in_list : {X : Type 0} (xs : List X) (x : X) → Contains xs x → In xs x
in_list [] x c = none_there x c
in_list (y ∷ ys) x c = by (in_list ys x) (Contains-append_cases (y ∷ []) ys x c)
  where
    by : (Contains ys x → In ys x) → Contains (y ∷ []) x ⊎ Contains ys x → (y ≡ x) ⊎ In ys x
    by rest (inl first) = inl (the_one y x first)
    by rest (inr later) = inr (rest later)

-- ---- what is owed

in_both : (f : Data → List Key) (c : Change) (d : Data) (k : Key) → IsOf c d → In (f d) k → In (of_both f c) k
in_both f c d k (inl was) i = in_left (flat_map f (one_of c.old)) (flat_map f (one_of c.new)) k (in_one f c.old d k was i)
in_both f c d k (inr is) i = in_right (flat_map f (one_of c.old)) (flat_map f (one_of c.new)) k (in_one f c.new d k is i)

of_pod : (c : Change) (l : Looks) (k : Key) → c.kind ≡ Pod → In (sets_to_look_by Pod l c) k → In (sets_to_look l c) k
of_pod c l k is i = subst (λ (j : Kind). In (sets_to_look_by j l c) k) (sym is) i

pub selecting_sets : SelectingSetsAreOwed
selecting_sets c l d m pod is none there matches =
    let adopts = subst (λ b. In (cond b [] (map (λ (m : Key × Data). m.0) (filter (selects d) (of_namespace (namespace_of d) l.replica_sets)))) m.0) (sym none)
    (in_map (λ (m : Key × Data). m.0) (filter (selects d) (of_namespace (namespace_of d) l.replica_sets)) m
    (in_filter (selects d) (of_namespace (namespace_of d) l.replica_sets) m matches (in_list (of_namespace (namespace_of d) l.replica_sets) m there))) in
    owed_set c l m.0
    (of_pod c l m.0 pod (in_right (of_both (controller_keys ReplicaSet) c) (flat_map (adopters l.replica_sets) (one_of c.new)) m.0 (in_one (adopters l.replica_sets) c.new d m.0 is adopts)))

pub controllers : ControllersAreOwed
controllers c l d k pod of there =
    owed_set c l k
    (of_pod c l k pod (in_left (of_both (controller_keys ReplicaSet) c) (flat_map (adopters l.replica_sets) (one_of c.new)) k
    (in_both (controller_keys ReplicaSet) c d k of (in_list (controller_keys ReplicaSet d) k there))))

pub owners : OwnersAreOwed
owners c l d k of there =
    owed_item c l k
    (in_right (itself c) (of_both owner_keys c ++ dependents_left l c) k (in_left (of_both owner_keys c) (dependents_left l c) k (in_both owner_keys c d k of (in_list (owner_keys d) k there))))

looked_at : (l : Looks) (ms : Entries) (u : List ℕ) (k : Key) → IsLookedAt l ms → In (dependents_in u ms) k → In (dependents l u) k
looked_at l ms u k (inl is) i =
    in_left (dependents_in u l.config_maps) (dependents_in u l.pods ++ (dependents_in u l.replica_sets ++ dependents_in u l.deployments)) k (subst (λ (ms : Entries). In (dependents_in u ms) k) is i)
looked_at l ms u k (inr (inl is)) i =
    in_right (dependents_in u l.config_maps) (dependents_in u l.pods ++ (dependents_in u l.replica_sets ++ dependents_in u l.deployments)) k
    (in_left (dependents_in u l.pods) (dependents_in u l.replica_sets ++ dependents_in u l.deployments) k (subst (λ (ms : Entries). In (dependents_in u ms) k) is i))
looked_at l ms u k (inr (inr (inl is))) i =
    in_right (dependents_in u l.config_maps) (dependents_in u l.pods ++ (dependents_in u l.replica_sets ++ dependents_in u l.deployments)) k
    (in_right (dependents_in u l.pods) (dependents_in u l.replica_sets ++ dependents_in u l.deployments) k
    (in_left (dependents_in u l.replica_sets) (dependents_in u l.deployments) k (subst (λ (ms : Entries). In (dependents_in u ms) k) is i)))
looked_at l ms u k (inr (inr (inr is))) i =
    in_right (dependents_in u l.config_maps) (dependents_in u l.pods ++ (dependents_in u l.replica_sets ++ dependents_in u l.deployments)) k
    (in_right (dependents_in u l.pods) (dependents_in u l.replica_sets ++ dependents_in u l.deployments) k
    (in_right (dependents_in u l.replica_sets) (dependents_in u l.deployments) k (subst (λ (ms : Entries). In (dependents_in u ms) k) is i)))

pub dependents_owed : DependentsAreOwed
dependents_owed c l ms d u m of named gone looked there =
    let dependent = looked_at l ms u m.0 looked (in_map (λ (m : Key × Data). m.0) (of_owner u ms) m (in_list (of_owner u ms) m there)) in
    let own : In (dependents_unless l c.new d) m.0 =
    subst (λ b. In (cond b [] (flat_map (dependents l) (one_of (uid d)))) m.0) (sym gone) (in_one (dependents l) (uid d) u m.0 named dependent) in
    let left : In (dependents_left l c) m.0 = in_both (dependents_unless l c.new) c d m.0 of own in
    owed_item c l m.0 (in_right (itself c) (of_both owner_keys c ++ dependents_left l c) m.0 (in_right (of_both owner_keys c) (dependents_left l c) m.0 left))
