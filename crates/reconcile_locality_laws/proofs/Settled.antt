-- What an empty plan says of ReplicaSets and of what the garbage collector looks at.
use Rattle.std.proofs.Common.{◌≡◌, ◌-◌, ◌||◌, ◌&&◌, ◌++◌, inl, inr, ℕ, zero, suc, List, [], ◌∷◌, Bool, true, false, true≢false, cond, not, filter, map, length, min, replicate, IfSome, Option, Some, None, arith, refl, sym, ap, subst, ◌∙◌}
use Rattle.std.specs.List.{AllByRecursion, list_all}
use Rattle.serde_json.specs.Data.{Data, object}
use Rattle.spec_api.specs.declared.kinds.Kind.TheVariants.{Pod}
use Rattle.spec_api.specs.Checks.{finalizers, has_text}
use Rattle.spec_api.specs.Deletion.{foreground}
use Rattle.spec_api.specs.History.{Entries}
use Rattle.spec_api.specs.Keys.{Key}
use Rattle.spec_api.specs.Metadata.{Owner, is_being_deleted, owners}
use Rattle.spec_api.specs.Replacements.{says_the_same}
use Rattle.spec_api.proofs.Truths.{both_true, not_both}
use Rattle.spec_client_go.specs.Commands.{Command, create, update_status}
use Rattle.spec_client_go.specs.Hands.{Hand, Read, live}
use Rattle.spec_client_go.specs.OwnerReferences.{owner_key, namespace_of}
use Rattle.spec_reconcile.specs.GarbageCollection.{collect, finish, is_blocked, plan_for}
use Rattle.spec_reconcile.specs.NewPods.{new_pod}
use Rattle.spec_reconcile.specs.PodClaims.{claim, claims, is_adoptable, is_own, is_released, may_adopt, own_pods}
use Rattle.spec_reconcile.specs.PodRanks.{missing, surplus, victims}
use Rattle.spec_reconcile.specs.Pods.{is_orphan, is_owned, matches}
use Rattle.spec_reconcile.specs.ReplicaSets.{delete_pod, new_status, plan_of, pods_looked_at, replicas, report, scale, scale_if, set_looked_at}
use Rattle.spec_reconcile.specs.Standings.{dependents, is_solid, is_to, standing, standing_at, standing_of, waits_for_dependents}
use Rattle.spec_reconcile.specs.Statuses.{status, with_status}
use Rattle.spec_reconcile.specs.declared.standing.Standing.TheVariants.{Solid, Waiting, Dangling}
use Rattle.spec_laws.proofs.Counted.{length_victims}
use Rattle.reconcile_locality_laws.specs.SettledSets.{IsSettled, WasReadLive, EmptyPlansAreOfSettledSets, controlled}
use Rattle.reconcile_locality_laws.specs.SettledItems.{EmptyPlansAreOfBlocked, EmptyPlansAreOfOwned, Stands}
use Rattle.reconcile_locality_laws.proofs.Elements.{not_true, In, each_in, in_any}
use Rattle.reconcile_locality_laws.proofs.ItemTurns.{collect_none, finish_none}
use Rattle.reconcile_locality_laws.proofs.SetTurns.{none_of_each, parts_none}

-- ---- lists

filtered_alike : {A : Type 0} (p q : A → Bool) (xs : List A) → ((x : A) → In xs x → p x ≡ q x) → filter p xs ≡ filter q xs
filtered_alike p q [] h = refl
filtered_alike p q (x ∷ xs) h =
    ap (λ b. cond b (x ∷ filter p xs) (filter p xs)) (h x (inl refl)) ∙ ap (λ ys. cond (q x) (x ∷ ys) ys) (filtered_alike p q xs (λ y i. h y (inr i)))

none_repeated : {A : Type 0} (n : ℕ) (a : A) → replicate n a ≡ [] → n ≡ 0
none_repeated zero a h = refl
none_repeated (suc n) a h = cc

none_mapped : {A B : Type 0} (f : A → B) (xs : List A) → map f xs ≡ [] → length xs ≡ 0
none_mapped f [] h = refl
none_mapped f (x ∷ xs) h = cc

-- ---- ReplicaSets

module _ (h : Hand) (set : Data) (looked : set_looked_at h ≡ Some set) (stays : is_being_deleted set ≡ false) (satisfied : h.is_satisfied ≡ true) (read : WasReadLive h set) (none : plan_of h (Some set) ≡ []) where
  abbrev may : Bool
  may = may_adopt set (live h.reads h.key)

  abbrev pods : Entries
  pods = pods_looked_at h

  abbrev own : Entries
  own = own_pods set may pods

  unclaimed : claims h.key set may pods ≡ []
  unclaimed = (parts_none (claims h.key set may pods) (scale_if h.is_satisfied h.key set own ++ report h.key set own) none).0

  unscaled : (scale_if h.is_satisfied h.key set own ≡ []) × (report h.key set own ≡ [])
  unscaled = parts_none (scale_if h.is_satisfied h.key set own) (report h.key set own) (parts_none (claims h.key set may pods) (scale_if h.is_satisfied h.key set own ++ report h.key set own) none).1

  neither : (a b : Bool) (x y : Command) → cond a (x ∷ []) (cond b (y ∷ []) []) ≡ [] → (a ≡ false) × (b ≡ false)
  neither true b x y h = cc
  neither false true x y h = cc
  neither false false x y h = (refl, refl)

  left : (m : Key × Data) → In pods m → (is_released set m.1 ≡ false) × ((may && is_adoptable set m.1) ≡ false)
  left m i = neither (is_released set m.1) (may && is_adoptable set m.1) _ _ (none_of_each (claim h.key set may) pods m unclaimed i)

  module _ (m : Key × Data) (i : In pods m) where
    owned_matches : is_owned set m.1 ≡ true → matches set m.1 ≡ true
    owned_matches owned = by (is_being_deleted set) (is_owned set m.1) (matches set m.1) stays owned (left m i).0
      where
        by : (a b c : Bool) → a ≡ false → b ≡ true → (not a && b && not c) ≡ false → c ≡ true
        by true b c p q r = cc
        by false true true p q r = refl
        by false true false p q r = cc
        by false false c p q r = cc

    adoptable : (is_orphan m.1 && matches set m.1) ≡ true → is_adoptable set m.1 ≡ true
    adoptable both = by (is_being_deleted set) (is_orphan m.1) (matches set m.1) stays both
      where
        by : (a b c : Bool) → a ≡ false → (b && c) ≡ true → (not a && b && c) ≡ true
        by true b c p q = cc
        by false true c p q = q
        by false false c p q = q

    not_orphan : (is_orphan m.1 && matches set m.1) ≡ false
    not_orphan =
        not_true (is_orphan m.1 && matches set m.1)
        (λ both. let fit = adoptable both in
        let can : may ≡ true = read (in_any (λ (p : Key × Data). is_adoptable set p.1) pods m i fit) in
        not_both (may && is_adoptable set m.1) (ap (λ b. b && is_adoptable set m.1) can ∙ fit) (left m i).1)

    counts_as_own : is_own set may m.1 ≡ is_owned set m.1
    counts_as_own = by (is_owned set m.1) (matches set m.1) (may && is_adoptable set m.1) owned_matches (left m i).1
      where
        by : (a b c : Bool) → (a ≡ true → b ≡ true) → c ≡ false → ((a && b) || c) ≡ a
        by true true c p q = refl
        by true false c p q = absurd (true≢false (sym (p refl)))
        by false b c p q = q

  own_is : own ≡ controlled set pods
  own_is = filtered_alike (λ (m : Key × Data). is_own set may m.1) (λ (m : Key × Data). is_owned set m.1) pods counts_as_own

  scaled_none : scale h.key set own ≡ []
  scaled_none = by h.is_satisfied (is_being_deleted set) satisfied stays unscaled.0
    where
      by : (a b : Bool) → a ≡ true → b ≡ false → cond (a && not b) (scale h.key set own) [] ≡ [] → scale h.key set own ≡ []
      by true false p q none = none
      by true true p q none = cc
      by false b p q none = cc

  as_many : length own ≡ replicas set
  as_many =
      let two = parts_none (replicate (missing (replicas set) own) (create Pod h.key.namespace (new_pod h.key set))) (map delete_pod (victims (replicas set) own)) scaled_none in
      let few : missing (replicas set) own ≡ 0 = none_repeated (missing (replicas set) own) (create Pod h.key.namespace (new_pod h.key set)) two.0 in
      let many : surplus (replicas set) own ≡ 0 = sym (length_victims (replicas set) own) ∙ none_mapped delete_pod (victims (replicas set) own) two.1 in
      same (replicas set) (length own) few many
    where
      same : (r n : ℕ) → min (r - n) 500 ≡ 0 → min (n - r) 500 ≡ 0 → n ≡ r
      same r n p q = omega arith

  reported : says_the_same (object (status set)) (object (new_status set own)) ≡ true
  reported = by (says_the_same (object (status set)) (object (new_status set own))) unscaled.1
    where
      by : (b : Bool) → cond b [] (update_status h.key (with_status (new_status set own) set) ∷ []) ≡ [] → b ≡ true
      by true none = refl
      by false none = cc

  settled : IsSettled h set
  settled =
      record {
        just_as_many = ap length (sym own_is) ∙ as_many;
        all_match = each_in (λ (p : Key × Data). is_owned set p.1 ≡ true → matches set p.1 ≡ true) pods owned_matches;
        no_orphan = each_in (λ (p : Key × Data). (is_orphan p.1 && matches set p.1) ≡ false) pods not_orphan;
        is_reported = subst (λ ps. says_the_same (object (status set)) (object (new_status set ps)) ≡ true) own_is reported;
      }

pub settled_sets : EmptyPlansAreOfSettledSets
settled_sets h set looked stays satisfied read none = settled h set looked stays satisfied read (ap (plan_of h) (sym looked) ∙ none)

-- ---- what the collector looks at

stands_at : (reads : List Read) (o : Owner) (key : Option Key) → is_solid (standing_at reads o key) ≡ true → IfSome key (λ k. (d : Data) × (live reads k ≡ Some d) × (is_to d o ≡ true) × (waits_for_dependents d ≡ false))
stands_at reads o None solid = tt
stands_at reads o (Some k) solid = by (live reads k) refl solid
  where
    both : (a b : Bool) → is_solid (cond a (cond b Waiting Solid) Dangling) ≡ true → (a ≡ true) × (b ≡ false)
    both true true h = cc
    both true false h = (refl, refl)
    both false b h = cc

    by : (found : Option Data) → live reads k ≡ found → is_solid (standing_of o found) ≡ true → (d : Data) × (live reads k ≡ Some d) × (is_to d o ≡ true) × (waits_for_dependents d ≡ false)
    by None at solid = cc
    by (Some d) at solid = let two = both (is_to d o) (waits_for_dependents d) solid in (d, at, two.0, two.1)

all_stand : (reads : List Read) (ns : List ℕ) (os : List Owner) → list_all is_solid (map (standing reads ns) os) ≡ true → AllByRecursion (Stands reads ns) os
all_stand reads ns [] solid = tt
all_stand reads ns (o ∷ os) solid =
    let two = both_true (is_solid (standing reads ns o)) (list_all is_solid (map (standing reads ns) os)) solid in
    (stands_at reads o (owner_key ns o) two.0, all_stand reads ns os two.1)

pub owned_items : EmptyPlansAreOfOwned
owned_items h d read stays none =
    let planned : plan_for h (Some d) ≡ [] = ap (plan_for h) (sym read) ∙ none in
    let collected : collect h.reads h.key d (dependents h.looks d) ≡ [] =
    ap (λ b. cond b (finish h.key d (dependents h.looks d)) (collect h.reads h.key d (dependents h.looks d))) (sym stays) ∙ planned
    in
    all_stand h.reads (namespace_of d) (owners d) (collect_none h.key d (dependents h.looks d) h.reads collected)

pub blocked_items : EmptyPlansAreOfBlocked
blocked_items h d read going none =
    let planned : plan_for h (Some d) ≡ [] = ap (plan_for h) (sym read) ∙ none in
    let finished : finish h.key d (dependents h.looks d) ≡ [] =
    ap (λ b. cond b (finish h.key d (dependents h.looks d)) (collect h.reads h.key d (dependents h.looks d))) (sym going) ∙ planned
    in
    let two = finish_none h.key d (dependents h.looks d) finished in
    (two.0, by (has_text (finalizers d) foreground) (is_blocked d (dependents h.looks d)) two.1)
  where
    by : (a b : Bool) → (a && not b) ≡ false → a ≡ true → b ≡ true
    by true true p q = refl
    by true false p q = cc
    by false b p q = cc
