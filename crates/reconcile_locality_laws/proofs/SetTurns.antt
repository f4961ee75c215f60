-- A ReplicaSet's plan reads only what owes it.
use Rattle.std.proofs.Common.{◌≡◌, ◌⊎◌, ◌||◌, ◌&&◌, ◌++◌, inl, inr, List, [], ◌∷◌, Bool, true, false, true≢false, cond, not, filter, flat_map, map, bytes_eq, Option, Some, None, refl, sym, ap, subst, ◌∙◌}
use Rattle.std.proofs.lemmas.Slice.Eq.{bytes_eq-Decides}
use Rattle.serde_json.specs.Data.{Data}
use Rattle.spec_api.specs.declared.kinds.Kind.TheVariants.{Pod, ReplicaSet}
use Rattle.spec_api.specs.History.{Entries, found}
use Rattle.spec_api.specs.Keys.{Key}
use Rattle.spec_api.specs.Metadata.{is_being_deleted, uid}
use Rattle.spec_api.specs.SelectorValues.{is_some_and}
use Rattle.reconcile_locality_laws.proofs.Elements.{not_true}
use Rattle.spec_api.proofs.Truths.{both_true, both_false, left_true, right_true, not_both}
use Rattle.spec_client_go.specs.declared.controller.Controller.TheVariants as controller
use Rattle.spec_client_go.specs.Commands.{Command, update}
use Rattle.spec_client_go.specs.Hands.{Hand, live}
use Rattle.spec_client_go.specs.Informers.{Looks, of_namespace}
use Rattle.spec_client_go.specs.OwedKeys.{Change, adopters, of_both, one_of, selects}
use Rattle.spec_client_go.specs.OwnerReferences.{controller_keys, has_controller, is_controlled_by, namespace_of}
use Rattle.spec_reconcile.specs.PodClaims.{adopted, claim, claims, is_adoptable, is_own, is_released, may_adopt, own_pods, released}
use Rattle.spec_reconcile.specs.Pods.{is_active, is_orphan, is_owned, matches}
use Rattle.spec_reconcile.specs.ReplicaSets.{has_adoptable, plan, plan_of, plan_with, pods_looked_at, report, scale_if, set_looked_at}
use Rattle.reconcile_locality_laws.specs.Differences.{AreNamed, Led, OwesNone, change}
use Rattle.reconcile_locality_laws.specs.ReplicaSetLocality.{AreSetTurns, KeepsAdoptable, SetPlansStay, SetsStaySettled, ShowsSet}
use Rattle.reconcile_locality_laws.proofs.Elements.{In, in_any, in_left, in_right, in_map, in_filter}
use Rattle.reconcile_locality_laws.proofs.Maps.{Fails, ascending_from, found_in, same_left}
use Rattle.reconcile_locality_laws.proofs.Owing.{owed_set, in_one, in_old, in_new}
use Rattle.reconcile_locality_laws.proofs.References.{controller_is_named, own, owns, unchanged}

-- ---- lists

pub parts_none : {A : Type 0} (xs ys : List A) → xs ++ ys ≡ [] → (xs ≡ []) × (ys ≡ [])
parts_none [] ys h = (refl, h)
parts_none (x ∷ xs) ys h = cc

pub none_of_each : {A B : Type 0} (f : A → List B) (xs : List A) (x : A) → flat_map f xs ≡ [] → In xs x → f x ≡ []
none_of_each f [] x h i = absurd i
none_of_each f (y ∷ xs) x h (inl is) = ap f (sym is) ∙ (parts_none (f y) (flat_map f xs) h).0
none_of_each f (y ∷ xs) x h (inr i) = none_of_each f xs x (parts_none (f y) (flat_map f xs) h).1 i

-- what a test fails makes nothing, so it need not be there
module _ {A : Type 0} (n c : A → Bool) where
  abbrev both : A → Bool
  both x = n x && c x

  same_made : {B : Type 0} (f : A → List B) → ((x : A) → c x ≡ false → f x ≡ []) → (xs : List A) → flat_map f (filter n xs) ≡ flat_map f (filter both xs)
  same_made f none [] = refl
  same_made f none (x ∷ xs) = by (n x) (c x) refl (same_made f none xs)
    where
      by : (b d : Bool) → c x ≡ d → flat_map f (filter n xs) ≡ flat_map f (filter both xs) → flat_map f (cond b (x ∷ filter n xs) (filter n xs)) ≡ flat_map f (cond (b && d) (x ∷ filter both xs) (filter both xs))
      by false d e rest = rest
      by true true e rest = ap (λ ys. f x ++ ys) rest
      by true false e rest = ap (λ ys. ys ++ flat_map f (filter n xs)) (none x e) ∙ rest

  same_kept : (p : A → Bool) → ((x : A) → c x ≡ false → p x ≡ false) → (xs : List A) → filter p (filter n xs) ≡ filter p (filter both xs)
  same_kept p none [] = refl
  same_kept p none (x ∷ xs) = by (n x) (c x) refl (same_kept p none xs)
    where
      by : (b d : Bool) → c x ≡ d → filter p (filter n xs) ≡ filter p (filter both xs) → filter p (cond b (x ∷ filter n xs) (filter n xs)) ≡ filter p (cond (b && d) (x ∷ filter both xs) (filter both xs))
      by false d e rest = rest
      by true true e rest = ap (λ ys. cond (p x) (x ∷ ys) ys) rest
      by true false e rest = ap (λ b. cond b (x ∷ filter p (filter n xs)) (filter p (filter n xs))) (none x e) ∙ rest

-- ---- which pods a plan reads

module _ (set : Data) (may : Bool) where
  -- whether a pod is released, or counts as the set's own
  abbrev counts : Data → Bool
  counts pod = is_released set pod || is_own set may pod

  or_cases : (a b : Bool) → (a || b) ≡ true → (a ≡ true) ⊎ (b ≡ true)
  or_cases true b h = inl refl
  or_cases false b h = inr h

  -- such a pod is owned, or to be adopted
  count_cases : (pod : Data) → counts pod ≡ true → (is_owned set pod ≡ true) ⊎ ((may && is_adoptable set pod) ≡ true)
  count_cases pod h = by (or_cases (is_released set pod) (is_own set may pod) h)
    where
      of_own : (is_owned set pod && matches set pod ≡ true) ⊎ ((may && is_adoptable set pod) ≡ true) → (is_owned set pod ≡ true) ⊎ ((may && is_adoptable set pod) ≡ true)
      of_own (inl h) = inl (left_true (is_owned set pod) (matches set pod) h)
      of_own (inr h) = inr h

      by : (is_released set pod ≡ true) ⊎ (is_own set may pod ≡ true) → (is_owned set pod ≡ true) ⊎ ((may && is_adoptable set pod) ≡ true)
      by (inl h) = inl (right_true (not (is_being_deleted set)) (is_owned set pod) (left_true (not (is_being_deleted set) && is_owned set pod) (not (matches set pod)) h))
      by (inr h) = of_own (or_cases (is_owned set pod && matches set pod) (may && is_adoptable set pod) h)

  module _ (k : Key) where
    neither : (a b : Bool) (x y : List Command) → a ≡ false → b ≡ false → cond a x (cond b y []) ≡ []
    neither true b x y p q = absurd (true≢false p)
    neither false true x y p q = absurd (true≢false q)
    neither false false x y p q = refl

    claim_none : (m : Key × Data) → counts m.1 ≡ false → claim k set may m ≡ []
    claim_none m h =
        let two = both_false (is_released set m.1) (is_own set may m.1) h in
        let last = both_false (is_owned set m.1 && matches set m.1) (may && is_adoptable set m.1) two.1 in
        neither (is_released set m.1) (may && is_adoptable set m.1) (update m.0 (released set m.1) ∷ []) (update m.0 (adopted k set m.1) ∷ []) two.0 last.1

    some_claimed : (a b : Bool) (x y : Command) → cond a (x ∷ []) (cond b (y ∷ []) []) ≡ [] → b ≡ false
    some_claimed true b x y h = cc
    some_claimed false true x y h = cc
    some_claimed false false x y h = refl

    -- a pod for which nothing is to be done is not to be adopted
    pub claim_adopts : (m : Key × Data) → claim k set may m ≡ [] → (may && is_adoptable set m.1) ≡ false
    claim_adopts m h = some_claimed (is_released set m.1) (may && is_adoptable set m.1) (update m.0 (released set m.1)) (update m.0 (adopted k set m.1)) h

    -- those of the pods in the namespace
    abbrev is_read : Key × Data → Bool
    is_read m = bytes_eq m.0.namespace k.namespace && counts m.1

    -- what is planned of these
    abbrev planned : Bool → Entries → Entries → List Command
    planned b claimed owned = flat_map (claim k set may) claimed ++ (scale_if b k set owned ++ report k set owned)

    plan_reads : (b : Bool) (ms : Entries) → plan_with b k set may (of_namespace k.namespace ms) ≡ plan_with b k set may (filter is_read ms)
    plan_reads b ms =
        ap (λ cs. cs ++ (scale_if b k set (own_pods set may (of_namespace k.namespace ms)) ++ report k set (own_pods set may (of_namespace k.namespace ms))))
        (same_made (λ (m : Key × Data). bytes_eq m.0.namespace k.namespace) (λ (m : Key × Data). counts m.1) (claim k set may) claim_none ms)
        ∙ ap (λ owned. claims k set may (filter is_read ms) ++ (scale_if b k set owned ++ report k set owned))
        (same_kept (λ (m : Key × Data). bytes_eq m.0.namespace k.namespace) (λ (m : Key × Data). counts m.1) (λ (m : Key × Data). is_own set may m.1)
        (λ m h. (both_false (is_released set m.1) (is_own set may m.1) h).1) ms)

-- where no pod is to be adopted, it is no matter whether one may be
module _ (k : Key) (set : Data) (may can : Bool) where
  unasked : (a b : Bool) → b ≡ false → (a && b) ≡ false
  unasked true b h = h
  unasked false b h = refl

  unasked_both : (pod : Data) → is_adoptable set pod ≡ false → (may && is_adoptable set pod) ≡ (can && is_adoptable set pod)
  unasked_both pod h = unasked may (is_adoptable set pod) h ∙ sym (unasked can (is_adoptable set pod) h)

  same_claims : (ms : Entries) → has_adoptable set ms ≡ false → claims k set may ms ≡ claims k set can ms
  same_claims [] h = refl
  same_claims (m ∷ ms) h =
      let two = both_false (is_adoptable set m.1) (has_adoptable set ms) h in
      ap (λ b. cond (is_released set m.1) (update m.0 (released set m.1) ∷ []) (cond b (update m.0 (adopted k set m.1) ∷ []) []) ++ claims k set may ms) (unasked_both m.1 two.0)
      ∙ ap (λ cs. claim k set can m ++ cs) (same_claims ms two.1)

  same_own : (ms : Entries) → has_adoptable set ms ≡ false → own_pods set may ms ≡ own_pods set can ms
  same_own [] h = refl
  same_own (m ∷ ms) h =
      let two = both_false (is_adoptable set m.1) (has_adoptable set ms) h in
      ap (λ b. cond ((is_owned set m.1 && matches set m.1) || b) (m ∷ own_pods set may ms) (own_pods set may ms)) (unasked_both m.1 two.0)
      ∙ ap (λ ps. cond (is_own set can m.1) (m ∷ ps) ps) (same_own ms two.1)

  same_without : (b : Bool) (ms : Entries) → has_adoptable set ms ≡ false → plan_with b k set may ms ≡ plan_with b k set can ms
  same_without b ms h =
      ap (λ cs. cs ++ (scale_if b k set (own_pods set may ms) ++ report k set (own_pods set may ms))) (same_claims ms h)
      ∙ ap (λ ps. claims k set can ms ++ (scale_if b k set ps ++ report k set ps)) (same_own ms h)

-- ---- two turns

module _ (h j : Hand) (t : AreSetTurns h j) where
  -- the set is the same in both
  same_set : found h.key h.looks.replica_sets ≡ found h.key j.looks.replica_sets
  same_set =
      let led = t.unowed_sets h.key in
      unchanged (OwesNone controller.ReplicaSet h.key (λ l. Unit {0})) ReplicaSet h.key (λ old new w i. w.2 (owed_set (change ReplicaSet old new) w.0 h.key i)) led.0
      (found h.key h.looks.replica_sets) (found h.key j.looks.replica_sets) (owns ReplicaSet h.looks.replica_sets h.key t.sets) led.1

  -- a pod that was to be adopted, where it may be, is as it was
  abbrev Keeps : Data → Bool → Type 0
  Keeps set may = (x : Key) (d : Data) → x.namespace ≡ h.key.namespace → found x h.looks.pods ≡ Some d → (found x j.looks.pods ≡ Some d) ⊎ ((may && is_adoptable set d) ≡ false)

  module _ (set : Data) (looked : set_looked_at h ≡ Some set) (may : Bool) (keeps : Keeps set may) where
    is_set : h.key.kind ≡ ReplicaSet
    is_set = ap (λ (x : Key). x.kind) (sym (own ReplicaSet h.looks.replica_sets h.key set t.sets looked))

    owes_by_owner : (ms : Entries) (x : Key) (d : Data) → AreNamed h.key set ms → found x ms ≡ Some d → is_owned set d ≡ true → In (controller_keys ReplicaSet d) h.key
    owes_by_owner ms x d named at owned =
        controller_is_named ReplicaSet h.key set ms (x, d) is_set named (found_in x ms d at) (right_true (is_active d) (is_some_and (λ u. is_controlled_by u d) (uid set)) owned)

    -- a pod that may be adopted owes a look at the set
    owes_as_orphan : (l : Looks) (x : Key) (d : Data) → ShowsSet h l → found x j.looks.pods ≡ Some d → bytes_eq x.namespace h.key.namespace ≡ true → (may && is_adoptable set d) ≡ true → In (adopters l.replica_sets d) h.key
    owes_as_orphan l x d shows at near adoptable =
        let fit = right_true may (is_adoptable set d) adoptable in
        let two = both_true (not (is_being_deleted set) && is_orphan d) (matches set d) fit in
        let orphan = right_true (not (is_being_deleted set)) (is_orphan d) two.0 in
        let free : not (has_controller d) ≡ true = right_true (is_active d) (not (has_controller d)) orphan in
        let place : In l.replica_sets (h.key, set) = found_in h.key l.replica_sets set (shows ∙ looked) in
        let own_place : x.namespace ≡ namespace_of d = ap (λ (x : Key). x.namespace) (sym (own Pod j.looks.pods x d t.later_pods at)) in
        let one : h.key.namespace ≡ namespace_of d = sym ((bytes_eq-Decides x.namespace h.key.namespace).0 near) ∙ own_place in
        let within : bytes_eq h.key.namespace (namespace_of d) ≡ true = (bytes_eq-Decides h.key.namespace (namespace_of d)).1 one in
        by (has_controller d) free
        (in_map (λ (m : Key × Data). m.0) (filter (selects d) (of_namespace (namespace_of d) l.replica_sets)) (h.key, set)
        (in_filter (selects d) (of_namespace (namespace_of d) l.replica_sets) (h.key, set) two.1
        (in_filter (λ (m : Key × Data). bytes_eq m.0.namespace (namespace_of d)) l.replica_sets (h.key, set) within place)))
      where
        by : (b : Bool) → not b ≡ true → In (map (λ (m : Key × Data). m.0) (filter (selects d) (of_namespace (namespace_of d) l.replica_sets))) h.key
            → In (cond b [] (map (λ (m : Key × Data). m.0) (filter (selects d) (of_namespace (namespace_of d) l.replica_sets)))) h.key
        by true free i = cc
        by false free i = i

    abbrev reads : Key × Data → Bool
    reads = is_read set may h.key

    module _ (x : Key) where
      abbrev Either : Type 0
      Either = (found x h.looks.pods ≡ found x j.looks.pods) ⊎ (Fails reads x (found x h.looks.pods) × Fails reads x (found x j.looks.pods))

      module _ (old new : Option Data) (w : OwesNone controller.ReplicaSet h.key (ShowsSet h) (change Pod old new)) where
        abbrev c : Change
        c = change Pod old new

        abbrev l : Looks
        l = w.0

        unlooked : In (of_both (controller_keys ReplicaSet) c ++ flat_map (adopters l.replica_sets) (one_of c.new)) h.key → ⊥
        unlooked i = w.2 (owed_set c l h.key i)

        by_owner : In (of_both (controller_keys ReplicaSet) c) h.key → ⊥
        by_owner i = unlooked (in_left (of_both (controller_keys ReplicaSet) c) (flat_map (adopters l.replica_sets) (one_of c.new)) h.key i)

        later_unread : (d : Data) → new ≡ Some d → found x j.looks.pods ≡ Some d → reads (x, d) ≡ true → ⊥
        later_unread d is at read = by (count_cases set may d two.1)
          where
            two : (bytes_eq x.namespace h.key.namespace ≡ true) × (counts set may d ≡ true)
            two = both_true (bytes_eq x.namespace h.key.namespace) (counts set may d) read

            by : (is_owned set d ≡ true) ⊎ ((may && is_adoptable set d) ≡ true) → ⊥
            by (inl owned) = by_owner (in_new (controller_keys ReplicaSet) c d h.key is (owes_by_owner j.looks.pods x d (t.later_named set looked) at owned))
            by (inr adoptable) =
                unlooked (in_right (of_both (controller_keys ReplicaSet) c) (flat_map (adopters l.replica_sets) (one_of c.new)) h.key
                (in_one (adopters l.replica_sets) c.new d h.key is (owes_as_orphan l x d w.1 at two.0 adoptable)))

        earlier_owned : (d : Data) → old ≡ Some d → found x h.looks.pods ≡ Some d → is_owned set d ≡ true → ⊥
        earlier_owned d is at owned = by_owner (in_old (controller_keys ReplicaSet) c d h.key is (owes_by_owner h.looks.pods x d (t.named set looked) at owned))

      fails : (o : Option Data) → ((d : Data) → o ≡ Some d → reads (x, d) ≡ true → ⊥) → Fails reads x o
      fails None none = tt
      fails (Some d) none = not_true (reads (x, d)) (none d refl)

      -- what the last change left is not read
      last_fails : (os : List (Option Data)) (old o : Option Data) → Led (OwesNone controller.ReplicaSet h.key (ShowsSet h)) Pod x old (o ∷ os) (found x j.looks.pods) → Fails reads x (found x j.looks.pods)
      last_fails [] old o led = fails (found x j.looks.pods) (λ d at read. later_unread old o led.0 d (led.2 ∙ at) at read)
      last_fails (p ∷ os) old o led = last_fails os o p led.2

      -- nor is what the first one found, but where it was to be adopted
      first_fails : (o : Option Data) → OwesNone controller.ReplicaSet h.key (ShowsSet h) (change Pod (found x h.looks.pods) o) → Fails reads x (found x j.looks.pods) → Either
      first_fails o w later = by (found x h.looks.pods) refl
        where
          at_once : (d : Data) → found x h.looks.pods ≡ Some d → (b : Bool) → reads (x, d) ≡ b → Either
          at_once d at false is = inr (subst (Fails reads x) (sym at) is, later)
          at_once d at true is = by (count_cases set may d two.1)
            where
              two : (bytes_eq x.namespace h.key.namespace ≡ true) × (counts set may d ≡ true)
              two = both_true (bytes_eq x.namespace h.key.namespace) (counts set may d) is

              kept : (may && is_adoptable set d) ≡ true → (found x j.looks.pods ≡ Some d) ⊎ ((may && is_adoptable set d) ≡ false) → Either
              kept adoptable (inl same) = inl (at ∙ sym same)
              kept adoptable (inr other) = absurd (not_both (may && is_adoptable set d) adoptable other)

              by : (is_owned set d ≡ true) ⊎ ((may && is_adoptable set d) ≡ true) → Either
              by (inl owned) = absurd (earlier_owned (found x h.looks.pods) o w d at at owned)
              by (inr adoptable) = kept adoptable (keeps x d ((bytes_eq-Decides x.namespace h.key.namespace).0 two.0) at)

          by : (q : Option Data) → found x h.looks.pods ≡ q → Either
          by None at = inr (subst (Fails reads x) (sym at) tt, later)
          by (Some d) at = at_once d at (reads (x, d)) refl

      either : Either
      either = by (t.unowed_pods x).0 (t.unowed_pods x).1
        where
          by : (os : List (Option Data)) → Led (OwesNone controller.ReplicaSet h.key (ShowsSet h)) Pod x (found x h.looks.pods) os (found x j.looks.pods) → Either
          by [] same = inl same
          by (o ∷ os) led = first_fails o led.0 (last_fails os (found x h.looks.pods) o led)

    same_read : filter reads h.looks.pods ≡ filter reads j.looks.pods
    same_read = same_left reads h.looks.pods j.looks.pods (ascending_from h.looks.pods t.pods.in_order) (ascending_from j.looks.pods t.later_pods.in_order) either

    same_plan : plan_with h.is_satisfied h.key set may (of_namespace h.key.namespace j.looks.pods) ≡ plan_with h.is_satisfied h.key set may (of_namespace h.key.namespace h.looks.pods)
    same_plan =
        plan_reads set may h.key h.is_satisfied j.looks.pods ∙ ap (plan_with h.is_satisfied h.key set may) (sym same_read) ∙ sym (plan_reads set may h.key h.is_satisfied h.looks.pods)

  module _ (set : Data) (looked : set_looked_at h ≡ Some set) (keeps : KeepsAdoptable h j) where
    abbrev may_then : Bool
    may_then = may_adopt set (live h.reads h.key)

    abbrev may_now : Bool
    may_now = may_adopt set (live j.reads h.key)

    abbrev pods_now : Entries
    pods_now = of_namespace h.key.namespace j.looks.pods

    -- where none was to be adopted, none is
    none_adopted : has_adoptable set (pods_looked_at h) ≡ false → Keeps set may_now
    none_adopted none x d near at =
        let place : In (pods_looked_at h) (x, d) =
        in_filter (λ (m : Key × Data). bytes_eq m.0.namespace h.key.namespace) h.looks.pods (x, d) ((bytes_eq-Decides x.namespace h.key.namespace).1 near) (found_in x h.looks.pods d at)
        in
        inr (unasked h.key set may_now may_now may_now (is_adoptable set d) (not_true (is_adoptable set d) (λ is. true≢false (sym (in_any (λ (p : Key × Data). is_adoptable set p.1) (pods_looked_at h) (x, d) place is) ∙ none))))

    same_now : (a b : Bool) → has_adoptable set (pods_looked_at h) ≡ a → has_adoptable set pods_now ≡ b
        → plan_with h.is_satisfied h.key set may_now pods_now ≡ plan_with h.is_satisfied h.key set may_then (pods_looked_at h)
    same_now false b p q = same_plan set looked may_now (none_adopted p) ∙ same_without h.key set may_now may_then h.is_satisfied (pods_looked_at h) p
    same_now true true p q = ap (λ m. plan_with h.is_satisfied h.key set m pods_now) (t.one_read set looked p q) ∙ same_plan set looked may_then (λ x d. keeps set x d looked)
    same_now true false p q = same_without h.key set may_now may_then h.is_satisfied pods_now q ∙ same_plan set looked may_then (λ x d. keeps set x d looked)

    later_plan : plan_of j (Some set) ≡ plan_of h (Some set)
    later_plan =
        ap (λ k. plan_with j.is_satisfied k set (may_adopt set (live j.reads k)) (of_namespace k.namespace j.looks.pods)) t.one_key
        ∙ ap (λ b. plan_with b h.key set may_now pods_now) t.one_answer
        ∙ same_now (has_adoptable set (pods_looked_at h)) (has_adoptable set pods_now) refl refl

  pub later_looked : set_looked_at j ≡ set_looked_at h
  later_looked = ap (λ k. found k j.looks.replica_sets) t.one_key ∙ sym same_set

pub plans_stay : SetPlansStay
plans_stay h j t keeps = ap (plan_of j) (later_looked h j t) ∙ by (set_looked_at h) refl
  where
    by : (o : Option Data) → set_looked_at h ≡ o → plan_of j o ≡ plan_of h o
    by None looked = refl
    by (Some set) looked = later_plan h j t set looked keeps

-- what was to be adopted was there
kept_adoptable : (h j : Hand) → plan h ≡ [] → KeepsAdoptable h j
kept_adoptable h j none set x d looked near at =
    let may = may_adopt set (live h.reads h.key) in
    let pods = pods_looked_at h in
    let nothing : plan_with h.is_satisfied h.key set may pods ≡ [] = ap (plan_of h) (sym looked) ∙ none in
    let own = own_pods set may pods in
    let unclaimed : claims h.key set may pods ≡ [] = (parts_none (claims h.key set may pods) (scale_if h.is_satisfied h.key set own ++ report h.key set own) nothing).0 in
    let place : In pods (x, d) =
    in_filter (λ (m : Key × Data). bytes_eq m.0.namespace h.key.namespace) h.looks.pods (x, d) ((bytes_eq-Decides x.namespace h.key.namespace).1 near) (found_in x h.looks.pods d at)
    in
    inr (claim_adopts set may h.key (x, d) (none_of_each (claim h.key set may) pods (x, d) unclaimed place))

pub stay_settled : SetsStaySettled
stay_settled h j t none = plans_stay h j t (kept_adoptable h j none) ∙ none
