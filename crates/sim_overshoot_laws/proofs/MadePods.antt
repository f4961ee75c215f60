-- Whatever steps are taken that let a set alone, the pods that are made for it stay its own, and match it.
use Rattle.std.proofs.Common.{◌≡◌, ◌≤◌, ◌+◌, ◌-◌, inl, inr, ◌&&◌, not, ℕ, suc, List, [], ◌∷◌, ◌++◌, length, length-append, take, drop, Bool, true, false, cond, IfSome, Option, Some, None, is_some, slice_get, refl, sym, ap, ◌∙◌, subst, append-nil, append_assoc, arith}
use Rattle.std.specs.List.{list_any, AllByRecursion}
use Rattle.std.proofs.lemmas.Slice.Eq.{bytes_eq-Decides}
use Rattle.serde_json.specs.Data.{Data}
use Rattle.spec_api.proofs.Truths.{both_true, right_true}
use Rattle.spec_api.specs.declared.kinds.Kind.TheVariants.{Pod, ReplicaSet}
use Rattle.spec_api.specs.History.{History, Entries, Write, write, writes, present, last_of, state}
use Rattle.spec_api.specs.Keys.{Key}
use Rattle.spec_api.specs.Metadata.{uid}
use Rattle.spec_api.specs.Reached.{IsReached}
use Rattle.spec_api.specs.SelectorValues.{is_some_and}
use Rattle.spec_client_go.specs.declared.controller.Controller.{Controller}
use Rattle.spec_client_go.specs.declared.controller.Controller.TheVariants as controller
use Rattle.spec_client_go.specs.Expectations.{Owner}
use Rattle.spec_client_go.specs.OwedKeys.{one_of}
use Rattle.spec_client_go.specs.OwnerReferences.{is_text}
use Rattle.spec_laws.proofs.Traced.{traced}
use Rattle.spec_reconcile.specs.PodClaims.{have_one_uid}
use Rattle.spec_reconcile.specs.Pods.{is_active, matches}
use Rattle.spec_reconcile.specs.ReplicaSets.{set_looked_at}
use Rattle.spec_sim.specs.declared.initial_syncs.InitialSync.{InitialSync}
use Rattle.spec_sim.specs.Clusters.{history}
use Rattle.spec_sim.specs.ControlPlanes.{ControlPlane, Step, in_cluster, handle, works, tick, opened, step, run}
use Rattle.spec_sim.specs.Managers.{Action}
use Rattle.spec_sim.specs.Turns.{Turn, begun, hand, owner_by, is_pod}
use Rattle.sim_worker_laws.specs.IssuedLaws.{IsSeen}
use Rattle.sim_worker_laws.proofs.Growing.{present_grows, state_stands, step_begins}
use Rattle.sim_control_plane_laws.specs.PlaneLaws.{IsServerList}
use Rattle.sim_control_plane_laws.proofs.PlaneRuns.{run_append}
use Rattle.sim_overshoot_laws.specs.BoundLaws.{is_counted}
use Rattle.sim_overshoot_laws.specs.BoundRuns.{made_by, AreKept, AllAreKept}
use Rattle.sim_overshoot_laws.specs.KeptPods.{is_among, Along, AllMatch, ArePutFor}
use Rattle.sim_overshoot_laws.specs.MadePods.{IsOfSet, StayOfSet, MadePodsStayOfSet, MadePodsAreKept}
use Rattle.sim_overshoot_laws.specs.Overshoot.{turn_of, made, written, pods_created, each_of_pods, keeps_claims, have_same_labels, is_replica_sets, LetsAlone, LetAlone, NoOvershoot}
use Rattle.sim_overshoot_laws.specs.Reserves.{is_set, is_controlled, is_turn_for, turn_at}
use Rattle.sim_overshoot_laws.proofs.Births.{writes-append}
use Rattle.sim_overshoot_laws.proofs.Bounding.{has_uid, plan_creates}
use Rattle.sim_overshoot_laws.proofs.Finishing.{now_is, since}
use Rattle.sim_overshoot_laws.proofs.KeptBounds.{kept_pods_are_few}
use Rattle.sim_overshoot_laws.proofs.LookedPods.{is_kind}
use Rattle.sim_overshoot_laws.proofs.LooksOfTurns.{take_past, put_there, pods_seen, set_seen, turn_listed}
use Rattle.sim_overshoot_laws.proofs.MadeByTurns.{Stays, stays_still, acted}
use Rattle.sim_overshoot_laws.proofs.Matching.{its_uid}
use Rattle.sim_overshoot_laws.proofs.OneSelector.{Next, along_at}
use Rattle.sim_overshoot_laws.proofs.PodsStay.{Onward, known_later, matches_set, many_more, with_labels}
use Rattle.sim_overshoot_laws.proofs.PodWrites.{WasPod}
use Rattle.reconcile_locality_laws.proofs.PlainTexts.{stored_plain}
use Rattle.sim_overshoot_laws.proofs.SameTexts.{same_labels}
use Rattle.sim_overshoot_laws.proofs.Sound.{planes_are_sound}

-- ---- where anybody else writes

module _ (o : Owner) where
  abbrev Keeps : Key → Option Data → Option Data → Type 0
  Keeps k old put = is_pod k.kind ≡ true → keeps_claims o old put ≡ true

  plain : (b c : Bool) → cond b c true ≡ true → b ≡ true → c ≡ true
  plain true c e f = e
  plain false c e f = cc

  claims_along : (h : History) (ws : List Write) → each_of_pods (keeps_claims o) h ws ≡ true → Along Keeps (writes h) ws
  claims_along h [] e = tt
  claims_along h (w ∷ ws) e =
      let parts = both_true (cond (is_pod w.key.kind) (keeps_claims o (state h (present h) w.key) w.put) true) (each_of_pods (keeps_claims o) (h ++ write w ∷ []) ws) e in (
        λ is. sym (ap (λ old. keeps_claims o old w.put) (now_is h w.key)) ∙ plain (is_pod w.key.kind) (keeps_claims o (state h (present h) w.key) w.put) parts.0 is,
        subst (λ b. Along Keeps b ws) (writes-append h (write w ∷ [])) (claims_along (h ++ write w ∷ []) ws parts.1),
      )

  -- a pod of the set keeps its reference, and its labels
  kept_claim : (a b : Bool) (was new : Data) → a ≡ true → b ≡ true → cond (a && b) (is_controlled o new && have_same_labels was new) (not (is_controlled o new)) ≡ true → (is_controlled o new && have_same_labels was new) ≡ true
  kept_claim true true was new e f g = g
  kept_claim true false was new e f g = cc
  kept_claim false b was new e f g = cc

  one_uid : (was new : Data) (u : List ℕ) → uid new ≡ Some u → uid was ≡ uid new → have_one_uid new was ≡ true
  one_uid was new u e same = ap (is_some_and (λ t. is_text t (uid was))) e ∙ ap (is_text u) (same ∙ e) ∙ (bytes_eq-Decides u u).1 refl

  module _ (h more : History) (reached : IsReached (h ++ more)) (claims : each_of_pods (keeps_claims o) h (writes more) ≡ true) where
    abbrev later : History
    later = h ++ more

    long : present later ≡ present h + length (writes more)
    long = let all : length (writes later) ≡ length (writes h) + length (writes more) = ap length (writes-append h more) ∙ length-append (writes h) (writes more) in omega (arith, all)

    next_claim : (r : ℕ) → present h ≤ r → r + 1 ≤ present later → (k : Key) → Next Keeps k (state later r k) (state later (r + 1) k)
    next_claim r low high k =
        let i = r - present h in
        let here : take (r - 1) (writes later) ≡ writes h ++ take i (writes more) = ap (take (r - 1)) (writes-append h more) ∙ take_past (writes h) (writes more) i (r - 1) (first r (length (writes h)) low) in
        let after : take (r + 1 - 1) (writes later) ≡ writes h ++ take (suc i) (writes more) =
        ap (take (r + 1 - 1)) (writes-append h more) ∙ take_past (writes h) (writes more) (suc i) (r + 1 - 1) (second r (length (writes h)) low) in
        subst (λ ws. Next Keeps k (last_of None k ws) (last_of None k (take (r + 1 - 1) (writes later)))) (sym here)
        (subst (λ ws. Next Keeps k (last_of None k (writes h ++ take i (writes more))) (last_of None k ws)) (sym after)
        (along_at Keeps (writes h) (writes more) (claims_along h (writes more) claims) i k (within r (length (writes h)) (length (writes more)) (present later) low long high)))
      where
        first : (r n : ℕ) → n + 1 ≤ r → r - 1 ≡ n + (r - (n + 1))
        first r n le = omega (arith, le)

        second : (r n : ℕ) → n + 1 ≤ r → r + 1 - 1 ≡ n + suc (r - (n + 1))
        second r n le = omega (arith, le)

        within : (r n m p : ℕ) → n + 1 ≤ r → p ≡ n + 1 + m → r + 1 ≤ p → suc (r - (n + 1)) ≤ m
        within r n m p le e f = omega (arith, le, e, f)

    claim_onward : (r : ℕ) → present h ≤ r → r + 1 ≤ present later → Onward o later r
    claim_onward r low high k was new pod before after same is = by (next_claim r low high k)
      where
        object_of : Some was ≡ Some new → was ≡ new
        object_of e = cc

        by : Next Keeps k (state later r k) (state later (r + 1) k) → IsOfSet o later new
        by (inl e) = subst (IsOfSet o later) (object_of (sym before ∙ sym e ∙ after)) is
        by (inr keeps) =
            let t = traced later (r + 1) k new reached high after in
            let said : keeps_claims o (Some was) (Some new) ≡ true = ap (λ old. keeps_claims o old (Some new)) (sym before) ∙ ap (keeps_claims o (state later r k)) (sym after) ∙ keeps (ap (λ j. is_pod j) pod) in
            let parts = both_true (is_controlled o new) (have_same_labels was new) (kept_claim (have_one_uid new was) (is_controlled o was) was new (one_uid was new _ t.2 same) is.controlled said) in
            with_labels o later was new parts.0 (sym (same_labels was new (stored_plain later r k was reached before) (stored_plain later (r + 1) k new reached after) parts.1)) is

    pub others_stay : (ps : List Data) → Stays o ps h → Stays o ps later
    others_stay ps is =
        let still = stays_still o h more ps is in (
          many_more o ps later reached (length (writes more)) (present h) (present later) long (omega arith) still.1 claim_onward still.0,
          known_later later (present h) (present later) (grows (present h) (length (writes more)) (present later) long) ps still.1,
        )
      where
        grows : (a b c : ℕ) → c ≡ a + b → a ≤ c
        grows a b c e = omega (arith, e)

-- ---- in whose turn a step is

not_for : (o : Owner) (x : Option Turn) → is_replica_sets x ≡ false → is_turn_for o x ≡ false
not_for o None off = refl
not_for o (Some t) off = by t.work_key.controller refl
  where
    by : (j : Controller) → t.work_key.controller ≡ j → is_turn_for o (Some t) ≡ false
    by controller.Deployment e = ap (λ j. list_any (is_set o) (one_of (owner_by j (hand t)))) e
    by controller.Collector e = ap (λ j. list_any (is_set o) (one_of (owner_by j (hand t)))) e
    by controller.ReplicaSet e = let no = sym (ap (λ j. is_replica_sets (Some (begun (record { controller = j; key = t.work_key.key })))) e) ∙ off in cc

-- ---- each step

module _ (o : Owner) (pods : List Data) (p : ControlPlane) (s : Step) (reached : IsReached (history p.cluster)) (later : IsReached (history (step p s).plane.cluster))
    (seen : (w : ℕ) (t : Turn) → slice_get p.manager.turns w ≡ Some (Some t) → AllByRecursion (IsSeen (IsServerList (history p.cluster))) t.sights) where
  abbrev h : History
  h = history p.cluster

  abbrev now : History
  now = history (step p s).plane.cluster

  abbrev more : History
  more = (step_begins p s).0

  grew : now ≡ h ++ more
  grew = (step_begins p s).1

  other_step : LetsAlone o p s → is_replica_sets (turn_of p s) ≡ false → Stays o pods h → Stays o (pods ++ made_by o p s) now
  other_step alone off is =
      let none : pods ++ made_by o p s ≡ pods = ap (λ b. pods ++ cond b (pods_created h (written p s)) []) (not_for o (turn_of p s) off) ∙ append-nil pods in
      let wrote : written p s ≡ writes more = ap (λ l. drop (length (writes h)) (writes l)) grew ∙ ap (drop (length (writes h))) (writes-append h more) ∙ since o (writes h) (writes more) in
      subst (λ ps. Stays o ps now) (sym none)
      (subst (Stays o pods) (sym grew) (others_stay o h more (subst IsReached grew later) (ap (each_of_pods (keeps_claims o) h) (sym wrote) ∙ alone.claims off) pods is))

  -- ---- what is known of them then

  module _ (ps : List Data) (is : Stays o ps now) where
    puts : (before ws : List Write) → writes now ≡ before ++ ws → ArePutFor o ps ws
    puts before [] e = tt
    puts before (w ∷ ws) e = (λ pod. by w.put refl (is_kind w.key.kind pod), puts (before ++ w ∷ []) ws (e ∙ sym (append_assoc before (w ∷ []) ws)))
      where
        by : (x : Option Data) → w.put ≡ x → w.key.kind ≡ Pod → IfSome x (λ new. is_among ps new ≡ true → is_controlled o new ≡ true)
        by None f pod = tt
        by (Some new) f pod = let there = put_there now before w ws e in λ among. (is.0 (length before + 2) w.key new there.0 pod (there.1 ∙ f) among).controlled

    module _ (t : Turn) (set : Data) (looks : AllByRecursion (IsSeen (IsServerList h)) t.sights) (own : is_turn_for o (Some t) ≡ true) (looked : set_looked_at (hand t) ≡ Some set) where
      there : (r : ℕ) × (r ≤ present h) × (state h r t.work_key.key ≡ Some set) × (t.work_key.key.kind ≡ ReplicaSet)
      there = set_seen h t set looks looked

      -- what was there is there still
      still : (r : ℕ) (k : Key) (d : Data) → r ≤ present h → state h r k ≡ Some d → (r ≤ present now) × (state now r k ≡ Some d)
      still r k d low at = subst (λ l. (r ≤ present l) × (state l r k ≡ Some d)) (sym grew) (up r (present h) (present (h ++ more)) low (present_grows h more), state_stands h more r k low ∙ at)
        where
          up : (a b c : ℕ) → a ≤ b → b ≤ c → a ≤ c
          up a b c e f = omega (arith, e, f)

      named : uid set ≡ Some o.uid
      named =
          let two = plan_creates o t.work_key.controller (hand t) set own looked in
          its_uid o.uid (uid set) (has_uid o t.work_key.key set two.0 (ap is_some (traced h there.0 t.work_key.key set reached there.1 there.2).2)).1

      match_one : (k : Key) (d : Data) → WasPod h k d → is_counted ps d ≡ true → matches set d ≡ true
      match_one k d was counts =
          let pod = still was.1 k d was.2 was.3 in
          let looked_at = still there.0 t.work_key.key set there.1 there.2 in
          matches_set o now later there.0 t.work_key.key set d looked_at.0 looked_at.1 there.3 named (is.0 was.1 k d pod.0 was.0 pod.1 (right_true (is_active d) (is_among ps d) counts))

      match_all : (es : Entries) → AllByRecursion (λ (e : Key × Data). WasPod h e.0 e.1) es → AllByRecursion (λ (e : Key × Data). is_counted ps e.1 ≡ true → matches set e.1 ≡ true) es
      match_all [] a = tt
      match_all (e ∷ es) a = (match_one e.0 e.1 a.0, match_all es a.1)

    matching : (t : Turn) (set : Data) (w : ℕ) → slice_get p.manager.turns w ≡ Some (Some t) → is_turn_for o (Some t) ≡ true → set_looked_at (hand t) ≡ Some set → AllMatch ps t set
    matching t set w here own looked = match_all t set (seen w t here) own looked (hand t).looks.pods (pods_seen h t (seen w t here))

  turn_in : (x : Option (Option Turn)) (t : Turn) → turn_at x ≡ Some t → x ≡ Some (Some t)
  turn_in None t e = cc
  turn_in (Some None) t e = cc
  turn_in (Some (Some u)) t e = ap (λ y. Some y) e

module _ (o : Owner) (pods : List Data) (p : ControlPlane) (reached : IsReached (history p.cluster))
    (seen : (w : ℕ) (t : Turn) → slice_get p.manager.turns w ≡ Some (Some t) → AllByRecursion (IsSeen (IsServerList (history p.cluster))) t.sights) (is : Stays o pods (history p.cluster)) where
  -- each step leaves them its own, with those that it makes
  stays_step : (s : Step) → IsReached (history (step p s).plane.cluster) → LetsAlone o p s → Stays o (pods ++ made_by o p s) (history (step p s).plane.cluster)
  stays_step s later alone = by s later alone (is_replica_sets (turn_of p s)) refl
    where
      worked : (w : ℕ) (a : Action) → IsReached (history (step p (works w a)).plane.cluster) → (x : Option (Option Turn)) → slice_get p.manager.turns w ≡ x → is_replica_sets (turn_at x) ≡ true
          → Stays o (pods ++ made_by o p (works w a)) (history (step p (works w a)).plane.cluster)
      worked w a later None e f = cc
      worked w a later (Some None) e f = cc
      worked w a later (Some (Some t)) e f =
          subst (λ x. Stays o (pods ++ cond (is_turn_for o (turn_at x)) (pods_created (history p.cluster) (written p (works w a))) []) (history (step p (works w a)).plane.cluster)) (sym e)
          (acted o pods p w reached is (seen w) a t e f later)

      by : (s : Step) → IsReached (history (step p s).plane.cluster) → LetsAlone o p s → (b : Bool) → is_replica_sets (turn_of p s) ≡ b → Stays o (pods ++ made_by o p s) (history (step p s).plane.cluster)
      by s later alone false off = other_step o pods p s reached later seen alone off is
      by (works w a) later alone true e = worked w a later (slice_get p.manager.turns w) refl e
      by (in_cluster x) later alone true e = cc
      by (handle k) later alone true e = cc
      by (tick n) later alone true e = cc

  -- so they are kept
  kept_step : (s : Step) (later : IsReached (history (step p s).plane.cluster)) → Stays o (pods ++ made_by o p s) (history (step p s).plane.cluster) → AreKept o (pods ++ made_by o p s) p s
  kept_step s later after =
      record { puts = puts o pods p s reached later seen (pods ++ made_by o p s) after [] (writes (history (step p s).plane.cluster)) refl; match_it = λ t set at own looked. by s later after t set at own looked }
    where
      by : (s : Step) (later : IsReached (history (step p s).plane.cluster)) → Stays o (pods ++ made_by o p s) (history (step p s).plane.cluster) → (t : Turn) (set : Data) → turn_of p s ≡ Some t → is_turn_for o (Some t) ≡ true
          → set_looked_at (hand t) ≡ Some set → AllMatch (pods ++ made_by o p s) t set
      by (works w a) later after t set at own looked =
          matching o pods p (works w a) reached later seen (pods ++ made_by o p (works w a)) after t set w (turn_in o pods p (works w a) reached later seen (slice_get p.manager.turns w) t at) own looked
      by (in_cluster x) later after t set at own looked = cc
      by (handle k) later after t set at own looked = cc
      by (tick n) later after t set at own looked = cc

-- ---- all steps

module _ (window workers : ℕ) (initial : InitialSync) (o : Owner) where
  abbrev v : ControlPlane
  v = opened window workers initial

  go : (before steps : List Step) (pods : List Data) → Stays o pods (history (run v before).cluster) → LetAlone o (run v before) steps
      → AllAreKept o pods (run v before) steps × StayOfSet o (pods ++ made o (run v before) steps) (history (run (run v before) steps).cluster)
  go before [] pods is alone = (tt, subst (λ ps. StayOfSet o ps (history (run v before).cluster)) (sym (append-nil pods)) is.0)
  go before (s ∷ ss) pods is alone =
      let p = run v before in
      let q = (step p s).plane in
      let same : run v (before ++ s ∷ []) ≡ q = run_append v before (s ∷ []) in
      let reached = (planes_are_sound window workers initial before).reached in
      let later = subst (λ z. IsReached (history z.cluster)) same (planes_are_sound window workers initial (before ++ s ∷ [])).reached in
      let after = stays_step o pods p reached (turn_listed window workers initial before) is s later alone.0 in
      let ps = pods ++ made_by o p s in
      let rest =
      subst (λ z. AllAreKept o ps z ss × StayOfSet o (ps ++ made o z ss) (history (run z ss).cluster)) same
      (go (before ++ s ∷ []) ss ps (subst (λ z. Stays o ps (history z.cluster)) (sym same) after) (subst (λ z. LetAlone o z ss) (sym same) alone.1)) in
      ((kept_step o pods p reached (turn_listed window workers initial before) is s later after, rest.0), subst (λ ms. StayOfSet o ms (history (run q ss).cluster)) (append_assoc pods (made_by o p s) (made o q ss)) rest.1)

  none_yet : Stays o [] (history v.cluster)
  none_yet = (λ r k d low pod at is. cc, tt)

pub made_pods_stay_of_set : MadePodsStayOfSet
made_pods_stay_of_set window workers initial steps o alone = (go window workers initial o [] steps [] (none_yet window workers initial o) alone).1

pub made_pods_are_kept : MadePodsAreKept
made_pods_are_kept window workers initial steps o alone = (go window workers initial o [] steps [] (none_yet window workers initial o) alone).0

-- so there are never more of them than the set was to have at most
pub no_overshoot : NoOvershoot
no_overshoot window workers initial steps o alone = kept_pods_are_few window workers initial steps o alone (made_pods_are_kept window workers initial steps o alone)
