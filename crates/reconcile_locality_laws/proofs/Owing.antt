-- Each key that is to be looked at is owed.
use Rattle.std.proofs.Common.{◌≡◌, ◌||◌, ◌++◌, inl, inr, List, [], ◌∷◌, Bool, true, false, flat_map, is_eq, Option, Some, Ordering, Less, Equal, Greater, refl, sym, ap, subst}
use Rattle.std.proofs.lemmas.Cmp.{tied_itself}
use Rattle.std.specs.List.{list_any}
use Rattle.std.specs.Ordering.{match_ordering}
use Rattle.std.specs.BTreeSet.{insert_key}
use Rattle.serde_json.specs.Data.{Data}
use Rattle.spec_api.specs.Keys.{Key}
use Rattle.spec_client_go.specs.declared.controller.Controller.{Controller}
use Rattle.spec_client_go.specs.declared.controller.Controller.TheVariants as controller
use Rattle.spec_client_go.specs.Informers.{Looks}
use Rattle.spec_client_go.specs.OwedKeys.{Change, one_of, of_both, with_keys, for_controller, sets_to_look, deployments_to_look, items_to_look}
use Rattle.spec_client_go.specs.WorkQueues.{WorkKey, work_key_cmp}
use Rattle.spec_client_go.proofs.WorkKeyOrder.{work_key_total}
use Rattle.reconcile_locality_laws.specs.Differences.{Owes}
use Rattle.reconcile_locality_laws.proofs.Elements.{In, in_left, in_right, in_map}

-- ---- keys that are added are owed

has : WorkKey → List WorkKey → Bool
has q ks = list_any (λ k. is_eq (work_key_cmp q k)) ks

or_left : (a b : Bool) → a ≡ true → (a || b) ≡ true
or_left true b is = refl
or_left false b is = cc

or_right : (a b : Bool) → b ≡ true → (a || b) ≡ true
or_right true b is = refl
or_right false b is = is

kept : (q : WorkKey) (ks : List WorkKey) (j : WorkKey) → has q ks ≡ true → has q (insert_key work_key_cmp ks j) ≡ true
unfolding has
kept q [] j is = cc
kept q (k ∷ ks) j is = by (work_key_cmp j k) (kept q ks j) is
  where
    by : (o : Ordering) → (list_any (λ k. is_eq (work_key_cmp q k)) ks ≡ true → list_any (λ k. is_eq (work_key_cmp q k)) (insert_key work_key_cmp ks j) ≡ true) → (is_eq (work_key_cmp q k) || list_any (λ k. is_eq (work_key_cmp q k)) ks) ≡ true
        → list_any (λ k. is_eq (work_key_cmp q k)) (match_ordering o (j ∷ k ∷ ks) (k ∷ ks) (k ∷ insert_key work_key_cmp ks j)) ≡ true
    by Less rest is = or_right (is_eq (work_key_cmp q j)) _ is
    by Equal rest is = is
    by Greater rest is = first (is_eq (work_key_cmp q k)) (list_any (λ k. is_eq (work_key_cmp q k)) ks) rest is
      where
        first : (a b : Bool) → (b ≡ true → list_any (λ k. is_eq (work_key_cmp q k)) (insert_key work_key_cmp ks j) ≡ true) → (a || b) ≡ true → (a || list_any (λ k. is_eq (work_key_cmp q k)) (insert_key work_key_cmp ks j)) ≡ true
        first true b rest is = refl
        first false b rest is = rest is

put : (ks : List WorkKey) (j : WorkKey) → has j (insert_key work_key_cmp ks j) ≡ true
unfolding has
put [] j = ap (λ o. is_eq o || false) (tied_itself work_key_total j)
put (k ∷ ks) j = by (work_key_cmp j k) refl (put ks j)
  where
    by : (o : Ordering) → work_key_cmp j k ≡ o → list_any (λ k. is_eq (work_key_cmp j k)) (insert_key work_key_cmp ks j) ≡ true
        → list_any (λ k. is_eq (work_key_cmp j k)) (match_ordering o (j ∷ k ∷ ks) (k ∷ ks) (k ∷ insert_key work_key_cmp ks j)) ≡ true
    by Less is rest = or_left (is_eq (work_key_cmp j j)) _ (ap is_eq (tied_itself work_key_total j))
    by Equal is rest = or_left (is_eq (work_key_cmp j k)) _ (ap is_eq is)
    by Greater is rest = or_right (is_eq (work_key_cmp j k)) _ rest

all_kept : (q : WorkKey) (js ks : List WorkKey) → has q ks ≡ true → has q (with_keys ks js) ≡ true
all_kept q [] ks is = is
all_kept q (j ∷ js) ks is = all_kept q js (insert_key work_key_cmp ks j) (kept q ks j is)

all_put : (q : WorkKey) (js ks : List WorkKey) → In js q → has q (with_keys ks js) ≡ true
all_put q [] ks i = absurd i
all_put q (j ∷ js) ks (inl is) = all_kept q js (insert_key work_key_cmp ks j) (subst (λ q. has q (insert_key work_key_cmp ks j) ≡ true) is (put ks j))
all_put q (j ∷ js) ks (inr i) = all_put q js (insert_key work_key_cmp ks j) i

task : Controller → Key → WorkKey
task w k = record { controller = w; key = k }

module _ (c : Change) (l : Looks) (k : Key) where
  abbrev sets : List WorkKey
  sets = for_controller controller.ReplicaSet (sets_to_look l c)

  abbrev deployments : List WorkKey
  deployments = for_controller controller.Deployment (deployments_to_look l c)

  abbrev items : List WorkKey
  items = for_controller controller.Collector (items_to_look l c)

  pub owed_set : In (sets_to_look l c) k → Owes c l controller.ReplicaSet k
  unfolding has task
  owed_set i =
      all_put (task controller.ReplicaSet k) (sets ++ (deployments ++ items)) [] (in_left sets (deployments ++ items) (task controller.ReplicaSet k) (in_map (task controller.ReplicaSet) (sets_to_look l c) k i))

  pub owed_deployment : In (deployments_to_look l c) k → Owes c l controller.Deployment k
  unfolding has task
  owed_deployment i =
      all_put (task controller.Deployment k) (sets ++ (deployments ++ items)) []
      (in_right sets (deployments ++ items) (task controller.Deployment k)
      (in_left deployments items (task controller.Deployment k) (in_map (task controller.Deployment) (deployments_to_look l c) k i)))

  pub owed_item : In (items_to_look l c) k → Owes c l controller.Collector k
  unfolding has task
  owed_item i =
      all_put (task controller.Collector k) (sets ++ (deployments ++ items)) []
      (in_right sets (deployments ++ items) (task controller.Collector k)
      (in_right deployments items (task controller.Collector k) (in_map (task controller.Collector) (items_to_look l c) k i)))

-- ---- what a change says

pub in_one : {X Y : Type 0} (f : X → List Y) (o : Option X) (x : X) (k : Y) → o ≡ Some x → In (f x) k → In (flat_map f (one_of o)) k
in_one {X} {Y} f o x k is i = subst (λ (o : Option X). In (flat_map f (one_of o)) k) (sym is) (in_left (f x) [] k i)

pub in_old : (f : Data → List Key) (c : Change) (d : Data) (k : Key) → c.old ≡ Some d → In (f d) k → In (of_both f c) k
in_old f c d k was i = in_left (flat_map f (one_of c.old)) (flat_map f (one_of c.new)) k (in_one f c.old d k was i)

pub in_new : (f : Data → List Key) (c : Change) (d : Data) (k : Key) → c.new ≡ Some d → In (f d) k → In (of_both f c) k
in_new f c d k is i = in_right (flat_map f (one_of c.old)) (flat_map f (one_of c.new)) k (in_one f c.new d k is i)
