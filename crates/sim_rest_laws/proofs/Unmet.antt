-- What is expected of a ReplicaSet's pods changes only by a change that owes its key, or in a turn of it.
use Rattle.std.proofs.Common.{◌≡◌, ◌⊎◌, inl, inr, ◌==◌, ◌-◌, ℕ, List, [], ◌∷◌, ◌++◌, map, flat_map, filter_map, replicate, drop, length, zero, suc, Bool, true, false, not, ◌&&◌, ◌||◌, cond, is_eq, nat_eq, nat_lt, Option, Some, None, option_map, option_and_then, unwrap_or, Ordering, Less, Equal, Greater, refl, sym, ap, ◌∙◌, subst}
use mathlib.Core.Bool.{true≢false}
use Rattle.std.specs.FinMap as map_of
use Rattle.std.specs.FinMap.{get-insert, get-retain_keys}
use Rattle.std.specs.FinSet as set
use Rattle.std.specs.List.{cons_option}
use Rattle.std.specs.Ordering.{eq_by_cmp}
use Rattle.serde_json.specs.Data.{Data}
use Rattle.spec_api.specs.declared.kinds.Kind.{Kind}
use Rattle.spec_api.specs.declared.kinds.Kind.TheVariants as kind
use Rattle.spec_api.specs.Keys.{Key, is_same_key}
use Rattle.spec_api.specs.Metadata as metadata
use Rattle.spec_api.specs.Metadata.{uid, is_being_deleted}
use Rattle.spec_api.proofs.PutLaws.{same_name}
use Rattle.spec_client_go.specs.declared.controller.Controller.{Controller}
use Rattle.spec_client_go.specs.declared.controller.Controller.TheVariants.{ReplicaSet, Deployment, Collector}
use Rattle.spec_client_go.specs.Commands.{Command}
use Rattle.spec_client_go.specs.Expectations.{Owner, owner_cmp, Expectation, Table, change, is_met, satisfied}
use Rattle.spec_client_go.specs.Hands.{Hand}
use Rattle.spec_client_go.specs.Informers.{Looks}
use Rattle.spec_client_go.specs.OwedKeys.{Change, one_of, of_both, adopters, sets_to_look, sets_to_look_by, keys_of}
use Rattle.spec_client_go.specs.OwnerReferences.{key_named, namespace_of, controllers, controller_keys}
use Rattle.spec_client_go.specs.Shifts.{Shift}
use Rattle.spec_client_go.specs.WorkQueues.{WorkKey}
use Rattle.spec_client_go.specs.Boards as boards
use Rattle.spec_client_go.specs.Boards.{Board, Observation, creation_observed, deletion_observed, lowered, all_lowered}
use Rattle.spec_client_go.proofs.Expected.{owner_total, owner_tells, keys_tied}
use Rattle.spec_reconcile.specs.ReplicaSets.{set_looked_at}
use Rattle.spec_sim.specs.Followers.{Notification}
use Rattle.spec_sim.specs.ControlPlanes.{change_of}
use Rattle.spec_sim.specs.Managers.{Client, Manager, Delivery, carry_out, forgotten_unless}
use Rattle.spec_sim.specs.NextSteps.{Sighting, of_expectations, order, NextStep, look, ask_satisfied, read, expect, issue, finish}
use Rattle.spec_sim.specs.PodObservations.{set_named, sets_of, is_same_pod, was_being_deleted, creation, deletion, seen_now, seen_no_more, observations_of_pod, observations_by, observations}
use Rattle.spec_sim.specs.Turns.{Turn, Expected, hand, commands, owner_by, owner, expected_of, expected_by, undone, as_observed, taken_back_by, taken_back, all_accepted}
use Rattle.sim_worker_laws.specs.OwedLaws.{IsAmong}
use Rattle.sim_worker_laws.proofs.Nexts.{Stands, to_ask, to_expect}
use Rattle.sim_rest_laws.specs.Rests.{ExpectsNothing}
use Rattle.sim_rest_laws.proofs.OwedObjects.{in_left, in_right, owed_set}

-- ---- what is still to be seen

abbrev pub unmet : Option Expectation → Bool
unmet None = false
unmet (Some e) = not ((e.creations == 0) && (set.len e.deletions == 0))

abbrev pub Unmet : Owner → Table → Type 0
Unmet o t = unmet (map_of.get t o) ≡ true

pub not_satisfied : (o : Owner) (now : ℕ) (t : Table) → satisfied o now t ≡ false → Unmet o t
not_satisfied o now t e = by (map_of.get t o) e
  where
    first_false : (a b : Bool) → (a || b) ≡ false → not a ≡ true
    first_false true b f = absurd (true≢false f)
    first_false false b f = refl

    by : (x : Option Expectation) → is_met now x ≡ false → unmet x ≡ true
    by None f = absurd (true≢false f)
    by (Some x) f = first_false ((x.creations == 0) && (set.len x.deletions == 0)) (nat_lt 300000 (now - x.since)) f

pub none_unmet : (o : Owner) (t : Table) → ExpectsNothing t → Unmet o t → ⊥
none_unmet o t nothing e = by (map_of.get t o) refl e
  where
    zeros : (m n : ℕ) → m ≡ 0 → n ≡ 0 → not ((m == 0) && (n == 0)) ≡ false
    zeros m n a b = ap (λ x. not ((x == 0) && (n == 0))) a ∙ ap (λ x. not ((0 == 0) && (x == 0))) b

    by : (x : Option Expectation) → map_of.get t o ≡ x → unmet x ≡ true → ⊥
    by None is f = true≢false (sym f)
    by (Some x) is f = let none = nothing o x is in true≢false (sym f ∙ zeros x.creations (set.len x.deletions) none.0 none.1)

-- ---- of one owner

abbrev pub whose : Observation → Owner
whose (creation_observed p) = p
whose (deletion_observed p u) = p

abbrev tied : Owner → Owner → Bool
tied o p = eq_by_cmp owner_cmp o p

equal_from : (r : Ordering) → is_eq r ≡ true → r ≡ Equal
equal_from Less h = cc
equal_from Equal h = refl
equal_from Greater h = cc

tied_is : (o p : Owner) → tied o p ≡ true → p ≡ o
tied_is o p e = sym (owner_tells o p (equal_from (owner_cmp o p) e))

module _ (o : Owner) where
  put_other : (p : Owner) (x : Expectation) (t : Table) → tied o p ≡ false → map_of.get (map_of.insert t p x) o ≡ map_of.get t o
  put_other p x t e = get-insert owner_total t p x o ∙ ap (λ b. cond b (Some x) (map_of.get t o)) e

  change_other : (x : Option Expectation) (f : Expectation → Expectation) (p : Owner) (t : Table) → tied o p ≡ false → map_of.get (change x f p t) o ≡ map_of.get t o
  change_other None f p t e = refl
  change_other (Some x) f p t e = put_other p (f x) t e

  lowered_other : (s : Observation) (t : Table) → tied o (whose s) ≡ false → map_of.get (lowered s t) o ≡ map_of.get t o
  lowered_other (creation_observed p) t e = change_other (map_of.get t p) (λ x. record x { creations = x.creations - 1 }) p t e
  lowered_other (deletion_observed p u) t e = change_other (map_of.get t p) (λ x. record x { deletions = set.remove x.deletions u }) p t e

  -- observations, one of which is of the owner, or all of others
  pub lowered_or : (ss : List Observation) (t : Table) → ((s : Observation) × IsAmong s ss × (whose s ≡ o)) ⊎ (map_of.get (all_lowered ss t) o ≡ map_of.get t o)
  lowered_or [] t = inr refl
  lowered_or (s ∷ ss) t = by (tied o (whose s)) refl (lowered_or ss (lowered s t))
    where
      by : (b : Bool) → tied o (whose s) ≡ b → ((r : Observation) × IsAmong r ss × (whose r ≡ o)) ⊎ (map_of.get (all_lowered ss (lowered s t)) o ≡ map_of.get (lowered s t) o)
          → ((r : Observation) × IsAmong r (s ∷ ss) × (whose r ≡ o)) ⊎ (map_of.get (all_lowered ss (lowered s t)) o ≡ map_of.get t o)
      by true e rest = inl (s, inl refl, tied_is o (whose s) e)
      by false e (inl r) = inl (r.0, inr r.1, r.2)
      by false e (inr is) = inr (is ∙ lowered_other s t e)

-- ---- what a change shows owes the key

in_option : (f : metadata.Owner → Option Owner) (g : metadata.Owner → Option Key) (x : metadata.Owner) (ps : List Owner) (ks : List Key) (p : Owner)
    → ((q : Owner) → f x ≡ Some q → g x ≡ Some q.key) → (IsAmong p ps → IsAmong p.key ks) → IsAmong p (cons_option (f x) ps) → IsAmong p.key (cons_option (g x) ks)
in_option f g x ps ks p names rest i = by (f x) (g x) names i
  where
    by : (a : Option Owner) (b : Option Key) → ((q : Owner) → a ≡ Some q → b ≡ Some q.key) → IsAmong p (cons_option a ps) → IsAmong p.key (cons_option b ks)
    by None None n j = rest j
    by None (Some k) n j = inr (rest j)
    by (Some q) b n (inl e) = subst (λ z. IsAmong p.key (cons_option z ks)) (sym (n q refl)) (inl (ap (λ (z : Owner). z.key) e))
    by (Some q) b n (inr j) = subst (λ z. IsAmong p.key (cons_option z ks)) (sym (n q refl)) (inr (rest j))

named_key : (ns : List ℕ) (x : metadata.Owner) (q : Owner) → set_named ns x ≡ Some q → key_named ns kind.ReplicaSet x.name ≡ Some q.key
named_key ns x q e = by (key_named ns kind.ReplicaSet x.name) x.uid e
  where
    by : (k : Option Key) (u : Option (List ℕ)) → option_and_then (λ k. option_map (λ u. record { key = k; uid = u }) u) k ≡ Some q → k ≡ Some q.key
    by None u f = cc
    by (Some k) None f = cc
    by (Some k) (Some u) f = let is : record { key = k; uid = u } ≡ q = some_is (record { key = k; uid = u }) f in ap (λ (z : Owner). Some z.key) is
      where
        some_is : (z : Owner) → Some z ≡ Some q → z ≡ q
        some_is z g = cc

pub keys_from : (ns : List ℕ) (xs : List metadata.Owner) (p : Owner) → IsAmong p (filter_map (set_named ns) xs) → IsAmong p.key (filter_map (λ o. key_named ns kind.ReplicaSet o.name) xs)
keys_from ns [] p i = absurd i
keys_from ns (x ∷ xs) p i =
    in_option (set_named ns) (λ o. key_named ns kind.ReplicaSet o.name) x (filter_map (set_named ns) xs) (filter_map (λ o. key_named ns kind.ReplicaSet o.name) xs) p (named_key ns x) (keys_from ns xs p) i

in_parts : {A : Type 0} (a : A) (xs ys : List A) → IsAmong a (xs ++ ys) → IsAmong a xs ⊎ IsAmong a ys
in_parts a [] ys i = inr i
in_parts a (x ∷ xs) ys (inl e) = inl (inl e)
in_parts a (x ∷ xs) ys (inr i) = by (in_parts a xs ys i)
  where
    by : IsAmong a xs ⊎ IsAmong a ys → IsAmong a (x ∷ xs) ⊎ IsAmong a ys
    by (inl y) = inl (inr y)
    by (inr y) = inr y

-- an observation that is of one of these owners
abbrev IsOf : List Owner → Observation → Type 0
IsOf ps s = IsAmong (whose s) ps

of_creation : (ps : List Owner) (s : Observation) → IsAmong s (map creation_observed ps) → IsOf ps s
of_creation [] s i = absurd i
of_creation (p ∷ ps) s (inl e) = inl (ap whose e)
of_creation (p ∷ ps) s (inr i) = inr (of_creation ps s i)

of_deletion : (u : List ℕ) (ps : List Owner) (s : Observation) → IsAmong s (map (λ o. deletion_observed o u) ps) → IsOf ps s
of_deletion u [] s i = absurd i
of_deletion u (p ∷ ps) s (inl e) = inl (ap whose e)
of_deletion u (p ∷ ps) s (inr i) = inr (of_deletion u ps s i)

of_deletions : (us : List (List ℕ)) (ps : List Owner) (s : Observation) → IsAmong s (flat_map (λ u. map (λ o. deletion_observed o u) ps) us) → IsOf ps s
of_deletions [] ps s i = absurd i
of_deletions (u ∷ us) ps s i = by (of_deletions us ps s) (in_parts s (map (λ o. deletion_observed o u) ps) (flat_map (λ u. map (λ o. deletion_observed o u) ps) us) i)
  where
    by : (IsAmong s (flat_map (λ u. map (λ o. deletion_observed o u) ps) us) → IsOf ps s)
        → IsAmong s (map (λ o. deletion_observed o u) ps) ⊎ IsAmong s (flat_map (λ u. map (λ o. deletion_observed o u) ps) us) → IsOf ps s
    by rest (inl x) = of_deletion u ps s x
    by rest (inr x) = rest x

of_if : (b : Bool) (ps : List Owner) (ss : List Observation) (s : Observation) → ((s : Observation) → IsAmong s ss → IsOf ps s) → IsAmong s (cond b [] ss) → IsOf ps s
of_if true ps ss s f i = absurd i
of_if false ps ss s f i = f s i

of_unless : (b : Bool) (ps : List Owner) (ss : List Observation) (s : Observation) → ((s : Observation) → IsAmong s ss → IsOf ps s) → IsAmong s (cond b ss []) → IsOf ps s
of_unless true ps ss s f i = f s i
of_unless false ps ss s f i = absurd i

of_now : (old : Option Data) (pod : Data) (s : Observation) → IsAmong s (seen_now old pod) → IsOf (sets_of pod) s
of_now old pod s i = by (in_parts s (cond (is_same_pod pod old) [] (creation pod)) (cond (is_being_deleted pod && not (was_being_deleted pod old)) (deletion pod) []) i)
  where
    by : IsAmong s (cond (is_same_pod pod old) [] (creation pod)) ⊎ IsAmong s (cond (is_being_deleted pod && not (was_being_deleted pod old)) (deletion pod) []) → IsOf (sets_of pod) s
    by (inl x) = of_if (is_same_pod pod old) (sets_of pod) (creation pod) s (of_creation (sets_of pod)) x
    by (inr x) = of_unless (is_being_deleted pod && not (was_being_deleted pod old)) (sets_of pod) (deletion pod) s (of_deletions (one_of (uid pod)) (sets_of pod)) x

of_gone : (new : Option Data) (pod : Data) (s : Observation) → IsAmong s (seen_no_more new pod) → IsOf (sets_of pod) s
of_gone new pod s i = of_if (is_same_pod pod new) (sets_of pod) (deletion pod) s (of_deletions (one_of (uid pod)) (sets_of pod)) i

-- what is said of the one that there is
of_one : (f : Data → List Observation) (o : Option Data) (s : Observation) → ((d : Data) (s : Observation) → IsAmong s (f d) → IsOf (sets_of d) s) → IsAmong s (flat_map f (one_of o))
    → IsAmong (whose s).key (flat_map (controller_keys kind.ReplicaSet) (one_of o))
of_one f None s shows i = absurd i
of_one f (Some d) s shows i = by (in_parts s (f d) [] i)
  where
    by : IsAmong s (f d) ⊎ IsAmong s [] → IsAmong (whose s).key (controller_keys kind.ReplicaSet d ++ [])
    by (inl x) = in_left (whose s).key (controller_keys kind.ReplicaSet d) [] (keys_from (namespace_of d) (controllers kind.ReplicaSet d) (whose s) (shows d s x))
    by (inr x) = absurd x

of_pod : (old new : Option Data) (s : Observation) → IsAmong s (observations_of_pod old new)
    → IsAmong (whose s).key (flat_map (controller_keys kind.ReplicaSet) (one_of old) ++ flat_map (controller_keys kind.ReplicaSet) (one_of new))
of_pod old new s i = by (in_parts s (flat_map (seen_no_more new) (one_of old)) (flat_map (seen_now old) (one_of new)) i)
  where
    by : IsAmong s (flat_map (seen_no_more new) (one_of old)) ⊎ IsAmong s (flat_map (seen_now old) (one_of new))
        → IsAmong (whose s).key (flat_map (controller_keys kind.ReplicaSet) (one_of old) ++ flat_map (controller_keys kind.ReplicaSet) (one_of new))
    by (inl x) = in_left (whose s).key (flat_map (controller_keys kind.ReplicaSet) (one_of old)) _ (of_one (seen_no_more new) old s (of_gone new) x)
    by (inr x) = in_right (whose s).key (flat_map (controller_keys kind.ReplicaSet) (one_of old)) _ (of_one (seen_now old) new s (of_now old) x)

of_kinds : (k : Kind) (c : Change) (l : Looks) (x : Shift) (s : Observation) → c.old ≡ x.old → c.new ≡ x.new → IsAmong s (observations_by k x) → IsAmong (whose s).key (sets_to_look_by k l c)
of_kinds kind.ConfigMap c l x s a b i = absurd i
of_kinds kind.ReplicaSet c l x s a b i = absurd i
of_kinds kind.Deployment c l x s a b i = absurd i
of_kinds kind.Pod c l x s a b i =
    in_left (whose s).key (of_both (controller_keys kind.ReplicaSet) c) (flat_map (adopters l.replica_sets) (one_of c.new))
    (subst (λ o. IsAmong (whose s).key (flat_map (controller_keys kind.ReplicaSet) (one_of o) ++ flat_map (controller_keys kind.ReplicaSet) (one_of c.new))) (sym a)
    (subst (λ o. IsAmong (whose s).key (flat_map (controller_keys kind.ReplicaSet) (one_of x.old) ++ flat_map (controller_keys kind.ReplicaSet) (one_of o))) (sym b) (of_pod x.old x.new s i)))

abbrev pub set_key : Key → WorkKey
set_key k = record { controller = ReplicaSet; key = k }

-- what a change shows of a ReplicaSet's pods owes its key
pub shown_owes : (n : Notification) (l : Looks) (s : Observation) → IsAmong s (observations n) → IsAmong (set_key (whose s).key) (keys_of (change_of n.shift) l)
shown_owes n l s i = owed_set (change_of n.shift) l (whose s).key (by n.is_in_initial_list i)
  where
    by : (b : Bool) → IsAmong s (cond b [] (observations_by n.shift.key.kind n.shift)) → IsAmong (whose s).key (sets_to_look l (change_of n.shift))
    by true x = absurd x
    by false x = of_kinds n.shift.key.kind (change_of n.shift) l n.shift s refl refl x

-- ---- a turn of another key

owner_is : (c : Controller) (h : Hand) (p : Owner) → owner_by c h ≡ Some p → (c ≡ ReplicaSet) × (h.key ≡ p.key)
owner_is ReplicaSet h p e = (refl, by (set_looked_at h) e)
  where
    by : (x : Option Data) → option_map (λ set. record { key = h.key; uid = unwrap_or (uid set) [] }) x ≡ Some p → h.key ≡ p.key
    by None f = cc
    by (Some d) f = cc
owner_is Deployment h p e = cc
owner_is Collector h p e = cc

pub owner_key : (t : Turn) (p : Owner) → owner t ≡ Some p → t.work_key ≡ set_key p.key
owner_key t p e = let is = owner_is t.work_key.controller (hand t) p e in λ i. record { controller = is.0 i; key = is.1 i }

expected_owner : (o : Option Owner) (cs : List Command) (e : Expected) → expected_by o cs ≡ Some e → o ≡ Some e.owner
expected_owner None cs e f = cc
expected_owner (Some p) cs e f = by ((expected_of cs p).creations == 0 && (length (expected_of cs p).deletions == 0)) f
  where
    by : (b : Bool) → cond b None (Some (expected_of cs p)) ≡ Some e → Some p ≡ Some e.owner
    by true g = cc
    by false g = ap (λ (x : Expected). Some x.owner) (is_that (expected_of cs p) g)
      where
        is_that : (x : Expected) → Some x ≡ Some e → x ≡ e
        is_that x h = cc

drop_none : (n : ℕ) (rest : List Sighting) → drop n [] ≡ of_expectations ∷ rest → ⊥
drop_none zero rest e = cc
drop_none (suc n) rest e = cc

-- only ReplicaSets' controller asks whether all was seen
asks_set : (c : Controller) (n : ℕ) (rest : List Sighting) → drop n (order c) ≡ of_expectations ∷ rest → c ≡ ReplicaSet
asks_set ReplicaSet n rest e = refl
asks_set Deployment zero rest e = cc
asks_set Deployment (suc zero) rest e = cc
asks_set Deployment (suc (suc zero)) rest e = cc
asks_set Deployment (suc (suc (suc n))) rest e = absurd (drop_none n rest e)
asks_set Collector zero rest e = cc
asks_set Collector (suc zero) rest e = cc
asks_set Collector (suc (suc zero)) rest e = cc
asks_set Collector (suc (suc (suc zero))) rest e = cc
asks_set Collector (suc (suc (suc (suc n)))) rest e = absurd (drop_none n rest e)

-- the next step of a turn does nothing to what is expected of its set
abbrev pub Harmless : Turn → NextStep → Type 0
Harmless u (look k) = Unit {0}
Harmless u ask_satisfied = owner u ≡ None → ⊥
Harmless u (read k) = Unit {0}
Harmless u (expect e) = ⊥
Harmless u (issue x) = Unit {0}
Harmless u finish = all_accepted u.issues ≡ true

module _ (o : Owner) where
  abbrev Kept : Table → Table → Type 0
  Kept t u = map_of.get u o ≡ map_of.get t o

  kept_forgotten : (x : Option Owner) (t : Turn) (b : Board) → owner t ≡ x → t.work_key.controller ≡ ReplicaSet → (t.work_key ≡ set_key o.key → owner t ≡ None → ⊥) → Kept b.expected (forgotten_unless x t.work_key.key b).expected
  kept_forgotten (Some p) t b e c harm = refl
  kept_forgotten None t b e c harm = by (is_same_key t.work_key.key o.key) refl
    where
      by : (x : Bool) → is_same_key t.work_key.key o.key ≡ x → map_of.get (map_of.retain_keys b.expected (λ p. not (is_same_key t.work_key.key p.key))) o ≡ map_of.get b.expected o
      by true is = absurd (harm (λ i. record { controller = c i; key = same_name t.work_key.key o.key is i }) e)
      by false is =
          get-retain_keys b.expected (λ p. not (is_same_key t.work_key.key p.key)) o (λ x f. ap (λ k. not (is_same_key t.work_key.key k)) (sym (keys_tied o x f)))
          ∙ ap (λ c. cond (not c) (map_of.get b.expected o) None) is

  kept_expected : (e : Expected) (t : Turn) (b : Board) → owner t ≡ Some e.owner → (t.work_key ≡ set_key o.key → ⊥) → (x : Bool)
      → Kept b.expected (cond x (boards.expecting_deletions e.owner e.deletions b) (boards.expecting_creations e.owner e.creations b)).expected
  kept_expected e t b is harm x = by (tied o e.owner) refl x
    where
      by : (c : Bool) → tied o e.owner ≡ c → (x : Bool) → Kept b.expected (cond x (boards.expecting_deletions e.owner e.deletions b) (boards.expecting_creations e.owner e.creations b)).expected
      by true f x = absurd (harm (owner_key t e.owner is ∙ ap (λ (p : Owner). set_key p.key) (tied_is o e.owner f)))
      by false f true = put_other o e.owner _ b.expected f
      by false f false = put_other o e.owner _ b.expected f

  -- what is taken back is of the turn's set
  of_replicate : (n : ℕ) (p : Owner) (s : Observation) → IsAmong s (replicate n (creation_observed p)) → whose s ≡ p
  of_replicate zero p s i = absurd i
  of_replicate (suc n) p s (inl e) = sym (ap whose e)
  of_replicate (suc n) p s (inr i) = of_replicate n p s i

  of_mapped : (us : List (List ℕ)) (p : Owner) (s : Observation) → IsAmong s (map (deletion_observed p) us) → whose s ≡ p
  of_mapped [] p s i = absurd i
  of_mapped (u ∷ us) p s (inl e) = sym (ap whose e)
  of_mapped (u ∷ us) p s (inr i) = of_mapped us p s i

  of_observed : (e : Expected) (s : Observation) → IsAmong s (as_observed e) → whose s ≡ e.owner
  of_observed e s i = by (in_parts s (replicate e.creations (creation_observed e.owner)) (map (deletion_observed e.owner) e.deletions) i)
    where
      by : IsAmong s (replicate e.creations (creation_observed e.owner)) ⊎ IsAmong s (map (deletion_observed e.owner) e.deletions) → whose s ≡ e.owner
      by (inl x) = of_replicate e.creations e.owner s x
      by (inr x) = of_mapped e.deletions e.owner s x

  kept_taken_back : (x : Option Owner) (t : Turn) (b : Board) → owner t ≡ x → (t.work_key ≡ set_key o.key → ⊥) → Kept b.expected (all_lowered (taken_back_by x (undone t)) b.expected)
  kept_taken_back None t b e harm = refl
  kept_taken_back (Some p) t b e harm = by (lowered_or o (as_observed (expected_of (undone t) p)) b.expected)
    where
      by : ((s : Observation) × IsAmong s (as_observed (expected_of (undone t) p)) × (whose s ≡ o)) ⊎ (Kept b.expected (all_lowered (as_observed (expected_of (undone t) p)) b.expected))
          → Kept b.expected (all_lowered (as_observed (expected_of (undone t) p)) b.expected)
      by (inl s) = absurd (harm (owner_key t p e ∙ ap (λ (q : Owner). set_key q.key) (sym (of_observed (expected_of (undone t) p) s.0 s.1) ∙ s.2)))
      by (inr is) = is

  kept_ended : (x : Bool) (t : Turn) (b : Board) → all_accepted t.issues ≡ x → (t.work_key ≡ set_key o.key → all_accepted t.issues ≡ true)
      → Kept b.expected (cond x (boards.finished t.work_key b) (boards.requeued t.work_key (taken_back t) b)).expected
  kept_ended true t b e harm = refl
  kept_ended false t b e harm = kept_taken_back (owner t) t b refl (λ k. true≢false (sym (harm k) ∙ e))

  pub kept_on : (c : Client) (w : ℕ) (m : Manager) (t : Turn) (d : Delivery) (n : NextStep) → Stands t n → (t.work_key ≡ set_key o.key → Harmless t n) → Kept m.board.expected (carry_out c w t d n m).manager.board.expected
  kept_on c w m t d (look k) s harm = refl
  kept_on c w m t d ask_satisfied (to_ask rest u) harm = kept_forgotten (owner t) t m.board refl (asks_set t.work_key.controller (length t.sights) rest u) harm
  kept_on c w m t d (read k) s harm = refl
  kept_on c w m t d (expect e) (to_expect _ u a none some) harm = kept_expected e t m.board (expected_owner (owner t) (commands t) e some) harm (nat_eq e.creations 0)
  kept_on c w m t d (issue x) s harm = refl
  kept_on c w m t d finish s harm = kept_ended (all_accepted t.issues) t m.board refl harm
