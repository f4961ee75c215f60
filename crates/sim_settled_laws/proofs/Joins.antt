-- An empty plan of a last turn stays empty: what is known of its run gives what the laws of plans ask.
use Rattle.std.proofs.Common.{◌≡◌, ◌⊎◌, inl, inr, ◌<◌, ◌==◌, ◌||◌, List, [], ◌∷◌, map, Bool, true, false, true≢false, cond, codes, is_eq, IfSome, Option, Some, Ordering, Less, Equal, Greater, refl, sym, ap, ◌∙◌, subst, arith}
use Rattle.std.specs.List.{AllByRecursion, list_any}
use Rattle.serde_json.specs.Data.{Data}
use Rattle.spec_api.specs.declared.kinds.Kind.{Kind}
use Rattle.spec_api.specs.declared.kinds.Kind.TheVariants.{ConfigMap, Pod, ReplicaSet, Deployment}
use Rattle.spec_api.specs.History.{History, present, state, list, found}
use Rattle.spec_api.specs.Keys.{Key}
use Rattle.spec_api.specs.Kinds.{rank}
use Rattle.spec_api.specs.Reached.{IsReached}
use Rattle.spec_api.proofs.PutLaws.{same_name}
use Rattle.spec_client_go.specs.declared.controller.Controller.{Controller}
use Rattle.spec_client_go.specs.declared.controller.Controller.TheVariants as controller
use Rattle.spec_client_go.specs.Hands.{Hand, Read}
use Rattle.spec_client_go.specs.Informers.{Looks}
use Rattle.spec_client_go.specs.OwedKeys.{Change, keys_of, own_key}
use Rattle.spec_client_go.specs.Shifts.{Shift}
use Rattle.spec_client_go.specs.WorkQueues.{WorkKey, work_key_cmp}
use Rattle.spec_client_go.proofs.WorkKeyOrder.{work_key_tells}
use Rattle.spec_reconcile.specs.Counts.{count_in_status}
use Rattle.spec_reconcile.specs.ReplicaSets as replica_sets
use Rattle.spec_laws.specs.SentLaws.{whole}
use Rattle.spec_sim.specs.ControlPlanes.{change_of}
use Rattle.spec_sim.specs.NextSteps.{Sighting, of_expectations, order}
use Rattle.spec_sim.specs.NextSteps as next_step
use Rattle.spec_sim.specs.Turns.{Turn, Sight, looked, satisfied, shown, looks, was_satisfied, asks_by, plan_by}
use Rattle.sim_worker_laws.specs.IssuedLaws.{IsSeen, sighting_of}
use Rattle.sim_worker_laws.specs.OwedLaws.{IsAmong}
use Rattle.sim_worker_laws.proofs.Lists.{all_map}
use Rattle.sim_rest_laws.specs.ShiftRunLaws.{Lead}
use Rattle.sim_rest_laws.specs.StillLaws.{IsLookOf, IsStill, OwedNothing, ShownIn, present_looks}
use Rattle.sim_rest_laws.specs.StillLaws as still_laws
use Rattle.sim_rest_laws.specs.WholeLaws.{AreServerLists, EmptyPlansStay, IsReadNow, MayGoOn, NameIsFree, ReferencesAreTrue, present_hand}
use Rattle.sim_rest_laws.proofs.ShiftRuns.{kinds_are}
use Rattle.reconcile_locality_laws.specs.CollectorLocality.{of_kind}
use Rattle.reconcile_locality_laws.specs.DeploymentLocality.{KeepsName}
use Rattle.reconcile_locality_laws.specs.Differences.{LedUnowed, Owes, OwesNone, change}
use Rattle.reconcile_locality_laws.specs.SettledAtPresent.{AreLists, DeploymentLeads, LeadsToPresent, WasShown}
use Rattle.reconcile_locality_laws.specs.SettledAtPresent as at_present
use Rattle.reconcile_locality_laws.proofs.AtPresent.{deployment_settled_now, item_settled, last, list_map, maps, set_settled, there}
use Rattle.reconcile_locality_laws.proofs.References.{own}
use Rattle.reconcile_locality_laws.proofs.StillPlans.{deployment_now}

-- ---- keys that are owed

among : (j : WorkKey) (ks : List WorkKey) → list_any (λ q. is_eq (work_key_cmp j q)) ks ≡ true → IsAmong j ks
among j [] is = cc
among j (k ∷ ks) is = by (work_key_cmp j k) refl (among j ks) is
  where
    by : (o : Ordering) → work_key_cmp j k ≡ o → (list_any (λ q. is_eq (work_key_cmp j q)) ks ≡ true → IsAmong j ks) → (is_eq o || list_any (λ q. is_eq (work_key_cmp j q)) ks) ≡ true → (k ≡ j) ⊎ IsAmong j ks
    by Less e rest is = inr (rest is)
    by Equal e rest is = inl (sym (work_key_tells j k e))
    by Greater e rest is = inr (rest is)

-- ---- looks

kind_of : (k : Kind) (l : Looks) → still_laws.of_kind k l ≡ of_kind k l
kind_of ConfigMap l = refl
kind_of Pod l = refl
kind_of ReplicaSet l = refl
kind_of Deployment l = refl

looks_are : (k : Kind) (ss : List Sight) → of_kind k (looks ss) ≡ shown k ss
looks_are ConfigMap ss = refl
looks_are Pod ss = refl
looks_are ReplicaSet ss = refl
looks_are Deployment ss = refl

-- a kind is looked at
abbrev Sees : Kind → List Sighting → Type 0
Sees k [] = ⊥
Sees k (next_step.of_kind j ∷ xs) = (j ≡ k) ⊎ Sees k xs
Sees k (of_expectations ∷ xs) = Sees k xs

same_rank : (k : Kind) → (rank k == rank k) ≡ true
same_rank ConfigMap = refl
same_rank Pod = refl
same_rank ReplicaSet = refl
same_rank Deployment = refl

module _ (Shown : Looks → Type 0) where
  abbrev IsOf : Kind → List Sight → Type 0
  IsOf k ss = (l : Looks) × Shown l × (shown k ss ≡ of_kind k l)

  seen_of : (k : Kind) (ss : List Sight) → AllByRecursion (IsSeen (IsLookOf Shown)) ss → Sees k (map sighting_of ss) → IsOf k ss
  seen_of k [] all sees = absurd sees
  seen_of k (satisfied b ∷ ss) all sees = seen_of k ss all.1 sees
  seen_of k (looked j s ∷ ss) all sees = by (rank k == rank j) refl (seen_of k ss all.1) sees
    where
      by : (b : Bool) → (rank k == rank j) ≡ b → (Sees k (map sighting_of ss) → IsOf k ss) → (j ≡ k) ⊎ Sees k (map sighting_of ss) → (l : Looks) × Shown l × (cond b s.members (shown k ss) ≡ of_kind k l)
      by true e rest sees = let at = all.0 in (at.0, at.1, at.2 ∙ ap (λ n. still_laws.of_kind n at.0) (sym (kinds_are k j e)) ∙ kind_of k at.0)
      by false e rest (inl is) = absurd (true≢false (sym (ap (λ n. rank k == rank n) is ∙ same_rank k) ∙ e))
      by false e rest (inr sees) = rest sees

-- ---- what is known of a last turn

module _ (h : History) (w : Controller) (x : Key) (Shown : Looks → Type 0) where
  abbrev j : WorkKey
  j = record { controller = w; key = x }

  abbrev Known : Key → Option Data → Option Data → Type 0
  Known y a b = (ss : List Shift) × Lead y a ss b × AllByRecursion (OwedNothing j Shown) ss

  -- changes of other keys are left out
  led_by : (y : Key) (a b : Option Data) (ss : List Shift) → Lead y a ss b → AllByRecursion (OwedNothing j Shown) ss → LedUnowed w x Shown y.kind y a b
  led_by y a b [] lead all = ([], lead)
  led_by y a b (s ∷ ss) (inr lead) all = led_by y a b ss lead.1 all.1
  led_by y a b (s ∷ ss) (inl lead) all =
      let is : y ≡ s.key = same_name y s.key lead.0 in
      let rest = led_by y s.new b ss lead.2 all.1 in
      let u = all.0 in
      let same : change_of s ≡ change y.kind a s.new = λ i. record { kind = (sym is i).kind; old = lead.1 i; new = s.new } in (
        s.new ∷ rest.0,
        ((u.0, u.1, λ owes. u.2 (among j (keys_of (change_of s) u.0) (subst (λ (c : Change). Owes c u.0 w x) (sym same) owes))), subst (λ (k : Key). IfSome s.new (λ d. own_key k.kind d ≡ k)) (sym is) u.3, rest.1),
      )

  led : (y : Key) (a b : Option Data) → Known y a b → LedUnowed w x Shown y.kind y a b
  led y a b k = led_by y a b k.0 k.1 k.2

  lists_of : AreServerLists h Shown → (l : Looks) → Shown l → AreLists h l
  lists_of lists l is k = let at = lists l is k in (at.0, at.1, sym (kind_of k l) ∙ at.2)

  leads_of : IsStill j Shown (present_looks h) → (l : Looks) → Shown l → LeadsToPresent (OwesNone w x Shown) h l
  leads_of still l is y =
      let known = still l y is in
      led y (found y (of_kind y.kind l)) (found y (of_kind y.kind (at_present.present_looks h))) (
        known.0,
        subst (λ ms. Lead y (found y ms) known.0 (found y (of_kind y.kind (at_present.present_looks h)))) (kind_of y.kind l)
            (subst (λ ms. Lead y (found y (still_laws.of_kind y.kind l)) known.0 (found y ms)) (kind_of y.kind (present_looks h)) known.1),
        known.2,
      )

  module _ (ss : List Sight) (reads : List Read) (seen : map sighting_of ss ≡ order w) (all : AllByRecursion (IsSeen (IsLookOf Shown)) ss) where
    -- what was in hand
    abbrev mine : Hand
    mine = record { key = x; looks = looks ss; is_satisfied = was_satisfied ss; reads = reads }

    shown_of : (k : Kind) → Sees k (order w) → WasShown Shown k mine
    shown_of k sees = let at = seen_of Shown k ss all (subst (Sees k) (sym seen) sees) in (at.0, at.1, looks_are k ss ∙ at.2)

    reads_of : AllByRecursion (λ (r : Read). Known r.key r.found (state h (present h) r.key)) reads → AllByRecursion (λ (r : Read). LedUnowed w x Shown r.key.kind r.key r.found (state h (present h) r.key)) reads
    reads_of known =
        all_map (λ (r : Read). Known r.key r.found (state h (present h) r.key)) (λ (r : Read). LedUnowed w x Shown r.key.kind r.key r.found (state h (present h) r.key))
        (λ r k. led r.key r.found (state h (present h) r.key) k) reads known

-- ---- each controller

module _ (h : History) (x : Key) (Shown : Looks → Type 0) (reached : IsReached h) (true_references : ReferencesAreTrue h) (lists : AreServerLists h Shown) (ss : List Sight)
    (reads now : List Read) (all : AllByRecursion (IsSeen (IsLookOf Shown)) ss) (read_now : AllByRecursion (IsReadNow h) now) where
  abbrev KnownReads : Controller → Type 0
  KnownReads w = AllByRecursion (λ (r : Read). Known h w x Shown r.key r.found (state h (present h) r.key)) reads

  abbrev in_hand : Hand
  in_hand = record { key = x; looks = looks ss; is_satisfied = was_satisfied ss; reads = reads }

  set_stays : IsStill (record { controller = controller.ReplicaSet; key = x }) Shown (present_looks h) → map sighting_of ss ≡ order controller.ReplicaSet → KnownReads controller.ReplicaSet → was_satisfied ss ≡ true
      → asks_by controller.ReplicaSet in_hand ≡ [] → plan_by controller.ReplicaSet in_hand ≡ [] → asks_by controller.ReplicaSet (present_hand h x now) ≡ [] → plan_by controller.ReplicaSet (present_hand h x now) ≡ []
  unfolding asks_by plan_by
  set_stays still seen known answered asked none later =
      subst (λ b. replica_sets.plan (record { key = x; looks = at_present.present_looks h; is_satisfied = b; reads = now }) ≡ []) answered
      (set_settled h Shown in_hand now reached true_references
      (record {
        lists = lists_of h controller.ReplicaSet x Shown lists;
        leads = leads_of h controller.ReplicaSet x Shown still;
        sets = shown_of h controller.ReplicaSet x Shown ss reads seen all ReplicaSet (inl refl);
        pods = shown_of h controller.ReplicaSet x Shown ss reads seen all Pod (inr (inl refl));
        reads = reads_of h controller.ReplicaSet x Shown ss reads seen all known;
      }) asked none read_now later)

  item_stays : IsStill (record { controller = controller.Collector; key = x }) Shown (present_looks h) → map sighting_of ss ≡ order controller.Collector → KnownReads controller.Collector
      → asks_by controller.Collector in_hand ≡ [] → plan_by controller.Collector in_hand ≡ [] → asks_by controller.Collector (present_hand h x now) ≡ [] → plan_by controller.Collector (present_hand h x now) ≡ []
  unfolding asks_by plan_by
  item_stays still seen known asked none later =
      item_settled h Shown in_hand now reached true_references
      (record {
        lists = lists_of h controller.Collector x Shown lists;
        leads = leads_of h controller.Collector x Shown still;
        looked = λ k. shown_of h controller.Collector x Shown ss reads seen all k (each k);
        reads = reads_of h controller.Collector x Shown ss reads seen all known;
      }) asked read_now later none
    where
      each : (k : Kind) → Sees k (order controller.Collector)
      each ConfigMap = inl refl
      each Pod = inr (inl refl)
      each ReplicaSet = inr (inr (inl refl))
      each Deployment = inr (inr (inr (inl refl)))

  module _ (d : Data) (is : state h (present h) x ≡ Some d) (may : MayGoOn controller.Deployment h x d) (still : IsStill (record { controller = controller.Deployment; key = x }) Shown (present_looks h))
      (seen : map sighting_of ss ≡ order controller.Deployment) where
    abbrev then_there : WasShown Shown Deployment in_hand
    then_there = shown_of h controller.Deployment x Shown ss reads seen all Deployment (inl refl)

    abbrev lists_at : (l : Looks) → Shown l → AreLists h l
    lists_at = lists_of h controller.Deployment x Shown lists

    abbrev leads : DeploymentLeads h Shown in_hand
    leads =
        record {
          lists = lists_at;
          leads = leads_of h controller.Deployment x Shown still;
          deployments = then_there;
          sets = shown_of h controller.Deployment x Shown ss reads seen all ReplicaSet (inr (inl refl));
          pods = shown_of h controller.Deployment x Shown ss reads seen all Pod (inr (inr (inl refl)));
        }

    same_deployment : found x (looks ss).deployments ≡ found x (list h (whole Deployment) (present h))
    same_deployment =
        ap (found x) then_there.2
        ∙ deployment_now Shown x (at_present.present_looks h) (maps h reached Shown lists_at) (last h reached Shown lists_at) (λ l y is. leads_of h controller.Deployment x Shown still l is y) then_there.0 then_there.1

    kept : (e : Data) → found x (looks ss).deployments ≡ Some e → (count_in_status (codes "collisionCount") e < 2147483647) × KeepsName in_hand (at_present.present_hand h in_hand now) e
    kept e at = (may_now.0, keeps may_now.1)
      where
        now_there : found x (list h (whole Deployment) (present h)) ≡ Some e
        now_there = sym same_deployment ∙ at

        stands : state h (present h) x ≡ Some e
        stands = there h (whole Deployment) (present h) x e now_there

        may_now : MayGoOn controller.Deployment h x e
        may_now = subst (λ o. IfSome o (MayGoOn controller.Deployment h x)) (sym is ∙ stands) may

        keeps : NameIsFree h x e → KeepsName in_hand (at_present.present_hand h in_hand now) e
        keeps (inl rolled) = inl rolled
        keeps (inr left) = inr (λ taken. absurd (true≢false (sym taken ∙ left)))

    deployment_stays : plan_by controller.Deployment in_hand ≡ [] → plan_by controller.Deployment (present_hand h x now) ≡ []
    unfolding plan_by
    deployment_stays none = deployment_settled_now h Shown in_hand now reached true_references leads kept none

-- ---- all

abbrev mine_of : Turn → Key → Hand
mine_of t x = record { key = x; looks = looks t.sights; is_satisfied = was_satisfied t.sights; reads = t.reads }

module _ (h : History) (t : Turn) (d : Data) (Shown : Looks → Type 0) (reads : List Read) (reached : IsReached h) (true_references : ReferencesAreTrue h) (lists : AreServerLists h Shown)
    (all : AllByRecursion (IsSeen (IsLookOf Shown)) t.sights) (read_now : AllByRecursion (IsReadNow h) reads) where
  each_stays : (w : Controller) (x : Key) → IsStill (record { controller = w; key = x }) Shown (present_looks h) → state h (present h) x ≡ Some d → MayGoOn w h x d
      → map sighting_of t.sights ≡ order w → AllByRecursion (λ (r : Read). Known h w x Shown r.key r.found (state h (present h) r.key)) t.reads → (w ≡ controller.ReplicaSet → was_satisfied t.sights ≡ true)
      → asks_by w (mine_of t x) ≡ [] → plan_by w (mine_of t x) ≡ [] → asks_by w (present_hand h x reads) ≡ [] → plan_by w (present_hand h x reads) ≡ []
  each_stays controller.ReplicaSet x still is may seen known answered asked none later =
      set_stays h x Shown reached true_references lists t.sights t.reads reads all read_now still seen known (answered refl) asked none later
  each_stays controller.Deployment x still is may seen known answered asked none later =
      deployment_stays h x Shown reached true_references lists t.sights t.reads reads all read_now d is may still seen none
  each_stays controller.Collector x still is may seen known answered asked none later =
      item_stays h x Shown reached true_references lists t.sights t.reads reads all read_now still seen known asked none later

pub plans_stay : EmptyPlansStay
plans_stay h j t d q since reads reached true_references lists still same is may seen all known were answered asked none read_now later =
    each_stays h t d (ShownIn q since) reads reached true_references lists all read_now j.controller j.key still is may seen known answered (subst (λ (k : WorkKey). asks_by k.controller (mine_of t k.key) ≡ []) same asked)
    (subst (λ (k : WorkKey). plan_by k.controller (mine_of t k.key) ≡ []) same none) later
