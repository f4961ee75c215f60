-- The garbage collector's plan for an object that needs nothing reads only what owes a look at it.
use Rattle.std.proofs.Common.{◌≡◌, ◌⊎◌, ◌&&◌, ◌++◌, inl, inr, ℕ, List, [], ◌∷◌, Bool, true, false, true≢false, cond, not, flat_map, map, bytes_eq, IfSome, Option, Some, None, option_map, refl, sym, ap, subst, ◌∙◌}
use Rattle.std.proofs.lemmas.Slice.Eq.{bytes_eq-Decides}
use Rattle.std.specs.List.{list_any, list_all}
use Rattle.serde_json.specs.Data.{Data}
use Rattle.spec_api.specs.declared.kinds.Kind.{Kind}
use Rattle.spec_api.specs.declared.kinds.Kind.TheVariants.{ConfigMap, Pod, ReplicaSet, Deployment}
use Rattle.spec_api.specs.Checks.{finalizers, has_text}
use Rattle.spec_api.specs.Deletion.{orphan, foreground}
use Rattle.spec_api.specs.History.{Entries, found}
use Rattle.spec_api.specs.Keys.{Key}
use Rattle.spec_api.specs.Metadata.{Owner, is_being_deleted, owners, uid}
use Rattle.spec_api.specs.SelectorValues.{is_some_and}
use Rattle.reconcile_locality_laws.proofs.Elements.{not_true}
use Rattle.spec_api.proofs.Truths.{both_true, left_true}
use Rattle.spec_client_go.specs.declared.controller.Controller.TheVariants as controller
use Rattle.spec_api.specs.declared.policies.Policy.TheVariants.{Foreground}
use Rattle.spec_client_go.specs.Commands.{Command, update, delete, answered}
use Rattle.spec_client_go.specs.Hands.{Hand, Read, live}
use Rattle.spec_client_go.specs.Informers.{Looks, of_owner}
use Rattle.spec_client_go.specs.OwedKeys.{Change, dependents_in, dependents_left, itself, of_both, one_of, own_key}
use Rattle.spec_client_go.specs.OwedKeys as owed
use Rattle.spec_client_go.specs.OwnerReferences.{is_owned_by, is_text, owner_key, owner_keys, namespace_of}
use Rattle.spec_reconcile.specs.GarbageCollection.{collect, finish, is_between, is_blocked, orphaned, own_policy, plan_for, remove, remove_after}
use Rattle.spec_reconcile.specs.MetadataEdits.{blocking_nobody, keeping_owners, without_finalizer}
use Rattle.spec_reconcile.specs.Standings.{blocks, dependents, is_solid, is_to, standing, standing_at, standing_of, standings, waits_for_dependents, with_owner_if}
use Rattle.spec_reconcile.specs.declared.standing.Standing.TheVariants.{Solid, Waiting, Dangling}
use Rattle.reconcile_locality_laws.specs.CollectorLocality.{AreItemTurns, ItemsStaySettled, ShowsItem, of_kind}
use Rattle.reconcile_locality_laws.specs.Differences.{AreNamed, Led, Owes, OwesNone, change}
use Rattle.reconcile_locality_laws.proofs.Elements.{In, contained, in_left, in_right, in_either, in_map, in_filter, was_in, any_in, in_any}
use Rattle.reconcile_locality_laws.proofs.Maps.{ascending_from, found_in, in_found}
use Rattle.reconcile_locality_laws.proofs.Owing.{owed_item, in_one, in_old, in_new}
use Rattle.reconcile_locality_laws.proofs.References.{some_true, owner_named, reference_named}

-- ---- objects of all kinds

module _ {X : Type 0} (f : Entries → List X) (x : X) (l : Looks) where
  abbrev all : List X
  all = f l.config_maps ++ (f l.pods ++ (f l.replica_sets ++ f l.deployments))

  of_one : (k : Kind) → In (f (of_kind k l)) x → In all x
  of_one ConfigMap i = in_left (f l.config_maps) (f l.pods ++ (f l.replica_sets ++ f l.deployments)) x i
  of_one Pod i = in_right (f l.config_maps) (f l.pods ++ (f l.replica_sets ++ f l.deployments)) x (in_left (f l.pods) (f l.replica_sets ++ f l.deployments) x i)
  of_one ReplicaSet i =
      in_right (f l.config_maps) (f l.pods ++ (f l.replica_sets ++ f l.deployments)) x
      (in_right (f l.pods) (f l.replica_sets ++ f l.deployments) x (in_left (f l.replica_sets) (f l.deployments) x i))
  of_one Deployment i =
      in_right (f l.config_maps) (f l.pods ++ (f l.replica_sets ++ f l.deployments)) x
      (in_right (f l.pods) (f l.replica_sets ++ f l.deployments) x (in_right (f l.replica_sets) (f l.deployments) x i))

  abbrev Of : Type 0
  Of = (k : Kind) × In (f (of_kind k l)) x

  of_last : In (f l.replica_sets) x ⊎ In (f l.deployments) x → Of
  of_last (inl i) = (ReplicaSet, i)
  of_last (inr i) = (Deployment, i)

  of_later : In (f l.pods) x ⊎ In (f l.replica_sets ++ f l.deployments) x → Of
  of_later (inl i) = (Pod, i)
  of_later (inr i) = of_last (in_either (f l.replica_sets) (f l.deployments) x i)

  of_any : In (f l.config_maps) x ⊎ In (f l.pods ++ (f l.replica_sets ++ f l.deployments)) x → Of
  of_any (inl i) = (ConfigMap, i)
  of_any (inr i) = of_later (in_either (f l.pods) (f l.replica_sets ++ f l.deployments) x i)

  one_of_all : In all x → Of
  one_of_all i = of_any (in_either (f l.config_maps) (f l.pods ++ (f l.replica_sets ++ f l.deployments)) x i)

-- ---- what is planned where nothing is

module _ (k : Key) (d : Data) (ms : Entries) where
  some_left : {A : Type 0} (xs : List A) (x : A) → xs ++ x ∷ [] ≡ [] → ⊥
  some_left [] x h = cc
  some_left (y ∷ xs) x h = cc

  abbrev is_free : Bool
  is_free = has_text (finalizers d) foreground && not (is_blocked d ms)

  pub finish_none : finish k d ms ≡ [] → (has_text (finalizers d) orphan ≡ false) × (is_free ≡ false)
  finish_none none = by (has_text (finalizers d) orphan) is_free none
    where
      by : (a b : Bool) → cond a (orphaned d ms ++ update k (without_finalizer orphan d) ∷ []) (cond b (update k (without_finalizer foreground d) ∷ []) []) ≡ [] → (a ≡ false) × (b ≡ false)
      by true b h = absurd (some_left (orphaned d ms) (update k (without_finalizer orphan d)) h)
      by false true h = cc
      by false false h = (refl, refl)

  none_finished : has_text (finalizers d) orphan ≡ false → is_free ≡ false → finish k d ms ≡ []
  none_finished p q =
      ap (λ a. cond a (orphaned d ms ++ update k (without_finalizer orphan d) ∷ []) (cond is_free (update k (without_finalizer foreground d) ∷ []) [])) p
      ∙ ap (λ (b : Bool). cond b (update k (without_finalizer foreground d) ∷ []) []) q

  module _ (reads : List Read) where
    abbrev keeps : List Command
    keeps = update k (keeping_owners (λ o. is_solid (standing reads (namespace_of d) o)) d) ∷ []

    abbrev cut : List Command
    cut = update k (blocking_nobody d) ∷ delete k (uid d) (Some answered) (Some Foreground) ∷ []

    abbrev last : List Command
    last = cond (is_between (standings reads d) ms) (remove_after k d ms) (remove k d (own_policy d))

    nothing_left : (a b c e : Bool) → cond a [] (cond b keeps (cond c (cond e cut (remove k d Foreground)) (remove k d (own_policy d)))) ≡ [] → a ≡ true
    nothing_left true b c e h = refl
    nothing_left false true c e h = cc
    nothing_left false false true true h = cc
    nothing_left false false true false h = cc
    nothing_left false false false e h = cc

    pub collect_none : collect reads k d ms ≡ [] → list_all is_solid (standings reads d) ≡ true
    collect_none none = nothing_left (list_all is_solid (standings reads d)) (list_any is_solid (standings reads d)) (is_between (standings reads d) ms) (list_any (λ m. waits_for_dependents m.1) ms) none

    none_collected : list_all is_solid (standings reads d) ≡ true → collect reads k d ms ≡ []
    none_collected solid = ap (λ a. cond a [] (cond (list_any is_solid (standings reads d)) keeps last)) solid

-- ---- an owner

-- an owner that is solid is there
solid_there : (o : Owner) (x : Data) → is_solid (standing_of o (Some x)) ≡ true → is_to x o ≡ true
solid_there o x = by (is_to x o) (waits_for_dependents x)
  where
    by : (a b : Bool) → is_solid (cond a (cond b Waiting Solid) Dangling) ≡ true → a ≡ true
    by true b h = refl
    by false b h = cc

is_now_solid : (o : Owner) (y : Data) → is_to y o ≡ true → waits_for_dependents y ≡ false → is_solid (standing_of o (Some y)) ≡ true
is_now_solid o y p q = ap (λ a. is_solid (cond a (cond (waits_for_dependents y) Waiting Solid) Dangling)) p ∙ ap (λ b. is_solid (cond b Waiting Solid)) q

-- one object whose uid the other has as well stands for whatever the other does
same_owner : (o : Owner) (u : List ℕ) (y : Data) → is_text u o.uid ≡ true → is_text u (uid y) ≡ true → is_to y o ≡ true
same_owner o u y of is =
    let found = some_true (bytes_eq u) (uid y) is in
    let one : u ≡ found.0 = (bytes_eq-Decides u found.0).0 found.2 in
    ap (is_some_and (λ v. is_text v o.uid)) found.1 ∙ ap (λ v. is_text v o.uid) (sym one) ∙ of

module _ (k : Key) (d : Data) (l : Looks) (there : found k (of_kind k.kind l) ≡ Some d) (o : Owner) (i : In (owners d) o) where
  -- what names the uid of something as its owner's is among its dependents
  depends : (u : List ℕ) → is_text u o.uid ≡ true → In (owed.dependents l u) k
  depends u is =
      of_one (dependents_in u) k l k.kind
      (in_map (λ (m : Key × Data). m.0) (of_owner u (of_kind k.kind l)) (k, d)
      (in_filter (λ (m : Key × Data). is_owned_by u m.1) (of_kind k.kind l) (k, d) (in_any (λ (o : Owner). is_text u o.uid) (owners d) o i is) (found_in k (of_kind k.kind l) d there)))

  owed_left : (c : Change) → In (dependents_left l c) k → Owes c l controller.Collector k
  owed_left c i = owed_item c l k (in_right (itself c) (of_both owner_keys c ++ dependents_left l c) k (in_right (of_both owner_keys c) (dependents_left l c) k i))

  -- an owner that does not live on owes it a look
  left_by : (new : Option Data) (x : Data) → owed.lives_on new x ≡ false → is_to x o ≡ true → In (owed.dependents_unless l new x) k
  left_by new x gone is =
      let of = some_true (λ u. is_text u o.uid) (uid x) is in
      subst (λ b. In (cond b [] (flat_map (owed.dependents l) (one_of (uid x)))) k) (sym gone) (in_one (owed.dependents l) (uid x) of.0 k of.1 (depends of.0 of.2))

  -- one whose name another has does not
  does_not : (x y : Data) → is_to x o ≡ true → is_to y o ≡ false → owed.lives_on (Some y) x ≡ false
  does_not x y is other =
      let of = some_true (λ u. is_text u o.uid) (uid x) is in
      let apart : is_text of.0 (uid y) ≡ false = not_true (is_text of.0 (uid y)) (λ same. true≢false (sym (same_owner o of.0 y of.2 same) ∙ other)) in
      ap (λ v. is_some_and (λ u. is_text u (uid y)) v && not (is_being_deleted y)) of.1 ∙ ap (λ b. b && not (is_being_deleted y)) apart

  -- nor does one that is being deleted
  is_going : (x y : Data) → is_being_deleted y ≡ true → owed.lives_on (Some y) x ≡ false
  is_going x y deleted = ap (λ b. is_some_and (λ u. is_text u (uid y)) (uid x) && not b) deleted ∙ none (is_some_and (λ u. is_text u (uid y)) (uid x))
    where
      none : (b : Bool) → (b && false) ≡ false
      none true = refl
      none false = refl

  -- an owner that was solid is solid, where its change owes it no look
  stays_solid : (kind : Kind) (a b : Option Data) → (Owes (change kind a b) l controller.Collector k → ⊥) → is_solid (standing_of o a) ≡ true → is_solid (standing_of o b) ≡ true
  stays_solid kind None b none solid = cc
  stays_solid kind (Some x) None none solid =
      let c = change kind (Some x) None in absurd (none (owed_left c (in_old (owed.dependents_unless l None) c x k refl (left_by None x refl (solid_there o x solid)))))
  stays_solid kind (Some x) (Some y) none solid = by (is_to y o) refl
    where
      waiting : is_to y o ≡ true → (b : Bool) → waits_for_dependents y ≡ b → is_solid (standing_of o (Some y)) ≡ true
      waiting is true waits =
          absurd (none (owed_left (change kind (Some x) (Some y)) (in_new (owed.dependents_unless l (Some y)) (change kind (Some x) (Some y)) y k refl (left_by (Some y) y (is_going y y (left_true (is_being_deleted y) (has_text (finalizers y) foreground) waits)) is))))
      waiting is false waits = is_now_solid o y is waits

      by : (b : Bool) → is_to y o ≡ b → is_solid (standing_of o (Some y)) ≡ true
      by true is = waiting is (waits_for_dependents y) refl
      by false is = absurd (none (owed_left (change kind (Some x) (Some y)) (in_old (owed.dependents_unless l (Some y)) (change kind (Some x) (Some y)) x k refl (left_by (Some y) x (does_not x y (solid_there o x solid) is) (solid_there o x solid)))))

-- ---- two turns

module _ (h j : Hand) (t : AreItemTurns h j) (d : Data) (read : live j.reads j.key ≡ Some d) where
  later_read : live j.reads h.key ≡ Some d
  later_read = ap (live j.reads) (sym t.one_key) ∙ read

  own_key_is : own_key h.key.kind d ≡ h.key
  own_key_is = subst (λ k. own_key k.kind d ≡ k) t.one_key (subst (λ o. IfSome o (λ d. own_key j.key.kind d ≡ j.key)) read t.own_key)

  -- what is put under its key owes it a look
  not_put : (os : List (Option Data)) (old o : Option Data) → Led (OwesNone controller.Collector h.key (λ l. Unit {0})) h.key.kind h.key old (o ∷ os) (live j.reads h.key) → ⊥
  not_put [] old o led =
      let c = change h.key.kind old o in
      led.0.2 (owed_item c led.0.0 h.key (in_left (itself c) (of_both owner_keys c ++ dependents_left led.0.0 c) h.key
      (subst (λ (o : Option Data). In (one_of (option_map (own_key h.key.kind) o)) h.key) (sym (led.2 ∙ later_read)) (inl own_key_is))))
  not_put (p ∷ os) old o led = not_put os o p led.2

  earlier_read : live h.reads h.key ≡ Some d
  earlier_read = by t.unowed_item.0 t.unowed_item.1
    where
      by : (os : List (Option Data)) → Led (OwesNone controller.Collector h.key (λ l. Unit {0})) h.key.kind h.key (live h.reads h.key) os (live j.reads h.key) → live h.reads h.key ≡ Some d
      by [] same = same ∙ later_read
      by (o ∷ os) led = absurd (not_put os (live h.reads h.key) o led)

  named : (k : Kind) → AreNamed h.key d (of_kind k h.looks)
  named k = subst (λ (x : Key). AreNamed x d (of_kind k h.looks)) t.one_key (t.named d k read)

  -- ---- its owners

  shown : (l : Looks) → ShowsItem j l → found h.key (of_kind h.key.kind l) ≡ Some d
  shown l shows = subst (λ (k : Key). found k (of_kind k.kind l) ≡ Some d) t.one_key (subst (λ o. IfSome o (λ d. found j.key (of_kind j.key.kind l) ≡ Some d)) read shows)

  module _ (o : Owner) (i : In (owners d) o) (x : Key) where
    led_solid : (os : List (Option Data)) (a b : Option Data) → Led (OwesNone controller.Collector h.key (ShowsItem j)) x.kind x a os b → is_solid (standing_of o a) ≡ true → is_solid (standing_of o b) ≡ true
    led_solid [] a b same solid = ap (λ found. is_solid (standing_of o found)) (sym same) ∙ solid
    led_solid (p ∷ os) a b led solid = led_solid os p b led.2 (stays_solid h.key d led.0.0 (shown led.0.0 led.0.1) o i x.kind a p led.0.2 solid)

  solid_at : (o : Owner) → In (owners d) o → (key : Option Key) → owner_key (namespace_of d) o ≡ key → is_solid (standing_at h.reads o key) ≡ true → is_solid (standing_at j.reads o key) ≡ true
  solid_at o i None names solid = refl
  solid_at o i (Some x) names solid =
      let led = t.unowed_owners d x read (contained (owner_keys d) x (owner_named x d o i names)) in
      led_solid o i x led.0 (live h.reads x) (live j.reads x) led.1 solid

  all_solid : list_all is_solid (standings h.reads d) ≡ true → list_all is_solid (standings j.reads d) ≡ true
  all_solid solid = by (owners d) (λ o i. i) solid
    where
      by : (os : List Owner) → ((o : Owner) → In os o → In (owners d) o) → list_all is_solid (map (standing h.reads (namespace_of d)) os) ≡ true → list_all is_solid (map (standing j.reads (namespace_of d)) os) ≡ true
      by [] within solid = refl
      by (o ∷ os) within solid =
          let two = both_true (is_solid (standing h.reads (namespace_of d) o)) (list_all is_solid (map (standing h.reads (namespace_of d)) os)) solid in
          ap (λ b. b && list_all is_solid (map (standing j.reads (namespace_of d)) os)) (solid_at o (within o (inl refl)) (owner_key (namespace_of d) o) refl two.0) ∙ by os (λ o i. within o (inr i)) two.1

  -- ---- its dependents

  module _ (m : Key × Data) (blocking : blocks d m.1 ≡ true) where
    -- a dependent that blocks it is there still
    same_dependent : (k : Kind) → In (of_kind k h.looks) m → In (of_kind k j.looks) m
    same_dependent k i = by (t.unowed_looks k m.0).0 (t.unowed_looks k m.0).1
      where
        at : found m.0 (of_kind k h.looks) ≡ Some m.1
        at = in_found (of_kind k h.looks) m (ascending_from (of_kind k h.looks) (t.in_order k)) i

        names : In (owner_keys m.1) h.key
        names =
            let one = any_in (λ (o : Owner). is_to d o && o.blocks_deletion) (owners m.1) blocking in
            owner_named h.key m.1 one.0 one.1 (reference_named h.key d (of_kind k h.looks) m one.0 (named k) i one.1 (left_true (is_to d one.0) one.0.blocks_deletion one.2))

        by : (os : List (Option Data)) → Led (OwesNone controller.Collector h.key (λ l. Unit {0})) k m.0 (found m.0 (of_kind k h.looks)) os (found m.0 (of_kind k j.looks)) → In (of_kind k j.looks) m
        by [] same = found_in m.0 (of_kind k j.looks) m.1 (sym same ∙ at)
        by (o ∷ os) led =
            let c = change k (found m.0 (of_kind k h.looks)) o in
            absurd (led.0.2 (owed_item c led.0.0 h.key (in_right (itself c) (of_both owner_keys c ++ dependents_left led.0.0 c) h.key
            (in_left (of_both owner_keys c) (dependents_left led.0.0 c) h.key (in_old owner_keys c m.1 h.key at names)))))

    still_there : (u : Option (List ℕ)) → In (with_owner_if h.looks u) m → In (with_owner_if j.looks u) m
    still_there None i = i
    still_there (Some u) i =
        let one = one_of_all (of_owner u) m h.looks i in
        let was = was_in (λ (m : Key × Data). is_owned_by u m.1) (of_kind one.0 h.looks) m one.1 in
        of_one (of_owner u) m j.looks one.0 (in_filter (λ (m : Key × Data). is_owned_by u m.1) (of_kind one.0 j.looks) m was.1 (same_dependent one.0 was.0))

  still_blocked : is_blocked d (dependents h.looks d) ≡ true → is_blocked d (dependents j.looks d) ≡ true
  still_blocked b =
      let one = any_in (λ (m : Key × Data). blocks d m.1) (dependents h.looks d) b in
      in_any (λ (m : Key × Data). blocks d m.1) (dependents j.looks d) one.0 (still_there one.0 one.2 (uid d) one.1) one.2

  still_bound : (has_text (finalizers d) foreground && not (is_blocked d (dependents h.looks d))) ≡ false → (has_text (finalizers d) foreground && not (is_blocked d (dependents j.looks d))) ≡ false
  still_bound = by (has_text (finalizers d) foreground) (is_blocked d (dependents h.looks d)) refl
    where
      by : (a b : Bool) → is_blocked d (dependents h.looks d) ≡ b → (a && not b) ≡ false → (a && not (is_blocked d (dependents j.looks d))) ≡ false
      by true true e free = ap not (still_blocked e)
      by true false e free = cc
      by false b e free = refl

  still_none : plan_for h (Some d) ≡ [] → plan_for j (Some d) ≡ []
  still_none = by (is_being_deleted d)
    where
      by : (b : Bool) → cond b (finish h.key d (dependents h.looks d)) (collect h.reads h.key d (dependents h.looks d)) ≡ [] → cond b (finish j.key d (dependents j.looks d)) (collect j.reads j.key d (dependents j.looks d)) ≡ []
      by true none = let two = finish_none h.key d (dependents h.looks d) none in none_finished j.key d (dependents j.looks d) two.0 (still_bound two.1)
      by false none = none_collected j.key d (dependents j.looks d) j.reads (all_solid (collect_none h.key d (dependents h.looks d) h.reads none))

pub stay_settled : ItemsStaySettled
stay_settled h j t none = by (live j.reads j.key) refl
  where
    by : (o : Option Data) → live j.reads j.key ≡ o → plan_for j (live j.reads j.key) ≡ []
    by None read = ap (plan_for j) read
    by (Some d) read = ap (plan_for j) read ∙ still_none h j t d read (ap (plan_for h) (sym (earlier_read h j t d read)) ∙ none)
