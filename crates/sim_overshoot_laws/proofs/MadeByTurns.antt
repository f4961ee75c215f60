-- What a command of a ReplicaSet's turn leaves of a set's pods, and makes.
use Rattle.std.proofs.Common.{◌≡◌, ◌≤◌, ◌+◌, ◌-◌, ◌||◌, ℕ, List, [], ◌∷◌, ◌++◌, length, take, drop, Bool, true, false, cond, is_some, IfSome, Option, Some, None, Ok, option_map, slice_get, refl, sym, ap, ◌∙◌, subst, append-nil, arith}
use Rattle.std.proofs.lemmas.List.{drop_all}
use Rattle.std.specs.List.{list_any, AllByRecursion}
use Rattle.std.specs.Option.{unwrap_or}
use Rattle.serde_json.specs.Data.{Data}
use Rattle.spec_api.proofs.PutLaws.{same_name}
use Rattle.spec_api.specs.declared.kinds.Kind.TheVariants.{Pod, ReplicaSet}
use Rattle.spec_api.specs.History.{History, Write, write, writes, present, last_of, state, found, entries_at}
use Rattle.spec_api.specs.Keys.{Key, is_same_key}
use Rattle.spec_api.specs.Metadata.{uid}
use Rattle.spec_api.specs.NewObjects as new_objects
use Rattle.spec_api.specs.ObjectRequests.{create_object}
use Rattle.spec_api.specs.Reached.{IsReached}
use Rattle.spec_api.specs.Reading.{reading}
use Rattle.spec_api.specs.Verbs.{accept, new_name, object_in, with_write, write_of}
use Rattle.spec_client_go.specs.declared.controller.Controller.{Controller}
use Rattle.spec_client_go.specs.declared.controller.Controller.TheVariants as controller
use Rattle.spec_client_go.specs.Commands.{Command, update, update_status, delete}
use Rattle.spec_client_go.specs.Expectations.{Owner}
use Rattle.spec_client_go.specs.Hands.{Hand}
use Rattle.spec_client_go.specs.OwedKeys.{one_of}
use Rattle.spec_laws.proofs.Cases.{of_create}
use Rattle.spec_laws.proofs.Traced.{there_after, traced}
use Rattle.spec_laws.proofs.VerbLaws.{found-state, none_from, of_none, present-write}
use Rattle.spec_reconcile.specs.NewPods.{new_pod}
use Rattle.spec_reconcile.specs.PodClaims.{released, adopted}
use Rattle.spec_reconcile.specs.ReplicaSets.{set_looked_at}
use Rattle.spec_sim.specs.Clusters.{Cluster, history}
use Rattle.spec_sim.specs.ControlPlanes.{ControlPlane, works, client, after_request, step, step_in}
use Rattle.spec_sim.specs.Managers.{Manager, Acted, Action, Delivery, delivered, answer_lost, dropped, requested, carry_out}
use Rattle.spec_sim.specs.NextSteps.{NextStep, next, look, ask_satisfied, read, expect, issue, finish}
use Rattle.spec_sim.specs.Turns.{Turn, hand, left, owner_by, version_answered}
use Rattle.sim_worker_laws.specs.IssuedLaws.{IsSeen}
use Rattle.sim_worker_laws.proofs.Acting.{by_act}
use Rattle.sim_worker_laws.proofs.Counting.{by_counted}
use Rattle.sim_worker_laws.proofs.Growing.{state_stands, present_grows}
use Rattle.sim_worker_laws.proofs.Nexts.{Stands, to_look, to_ask, to_read, to_expect, to_issue, to_finish, stands}
use Rattle.sim_control_plane_laws.specs.PlaneLaws.{IsServerList}
use Rattle.sim_overshoot_laws.specs.MadePods.{IsOfSet}
use Rattle.sim_overshoot_laws.specs.Overshoot.{is_replica_sets, pods_created}
use Rattle.sim_overshoot_laws.specs.Reserves.{is_set, is_turn_for, created}
use Rattle.sim_overshoot_laws.proofs.Asking.{just}
use Rattle.sim_overshoot_laws.proofs.Births.{writes-append}
use Rattle.sim_overshoot_laws.proofs.Bounding.{has_uid, plan_creates}
use Rattle.sim_overshoot_laws.proofs.Edits.{edits_are_no_news}
use Rattle.sim_overshoot_laws.proofs.LooksOfTurns.{is_itself, pods_seen, set_seen}
use Rattle.sim_overshoot_laws.proofs.Matching.{its_uid}
use Rattle.sim_overshoot_laws.proofs.PodLabels.{new_pods_match_their_set}
use Rattle.sim_overshoot_laws.proofs.PodsStay.{Known, Upto, Onward, grown, one_more, replaced_stays, with_new}
use Rattle.sim_overshoot_laws.proofs.PodWrites.{Planned, releases, adopts, creates, deletes, reports, planned_next, planned_writes, Replaces, WasPod}
use Rattle.sim_overshoot_laws.proofs.Replaced.{news}
use Rattle.reconcile_locality_laws.proofs.PlainTexts.{stored_reads}
use Rattle.sim_overshoot_laws.proofs.StoredSets.{sets_match_their_templates}
use Rattle.sim_overshoot_laws.proofs.Strangers.{new_pods_are_of_their_set, plain}

-- these pods were there, and whenever they are they are the set's own
abbrev pub Stays : Owner → List Data → History → Type 0
Stays o ps h = Upto o h (present h) ps × Known h (present h) ps

module _ (o : Owner) where
  -- more that happens leaves what was
  known_still : (h more : History) (n : ℕ) (ps : List Data) → present h ≤ n → Known h (present h) ps → Known (h ++ more) n ps
  known_still h more n [] le known = tt
  known_still h more n (p ∷ ps) le known = let k = known.0 in ((k.0, k.1, over k.0 (present h) n k.2 le, state_stands h more k.0 k.1 k.2 ∙ k.3), known_still h more n ps le known.1)
    where
      over : (a b c : ℕ) → a ≤ b → b ≤ c → a ≤ c
      over a b c e f = omega (arith, e, f)

  upto_still : (h more : History) (ps : List Data) → Upto o h (present h) ps → Upto o (h ++ more) (present h) ps
  upto_still h more ps upto r k d low pod at is = grown o h more d (upto r k d low pod (sym (state_stands h more r k low) ∙ at) is)

  pub stays_still : (h more : History) (ps : List Data) → Stays o ps h → Upto o (h ++ more) (present h) ps × Known (h ++ more) (present h) ps
  stays_still h more ps is = (upto_still h more ps is.0, known_still h more (present h) ps (omega arith) is.1)

  -- ---- one write

  module _ (h : History) (w : Write) where
    abbrev later : History
    later = h ++ write w ∷ []

    state_after : (k : Key) → state later (present h + 1) k ≡ cond (is_same_key k w.key) w.put (state h (present h) k)
    state_after k = ap (λ ws. last_of None k (take (present h + 1 - 1) ws)) (writes-append h (write w ∷ [])) ∙ there_after (writes h) w (present h + 1) k refl

    state_before : (k : Key) → state later (present h) k ≡ state h (present h) k
    state_before k = state_stands h (write w ∷ []) (present h) k (omega arith)

    one_step : present h + 1 ≤ present later
    one_step = subst (λ n. present h + 1 ≤ n) (sym (present-write h w)) (omega arith)

    module _ (reached : IsReached later) (r : ℕ) (key : Key) (set : Data) (low : r ≤ present h) (at : state h r key ≡ Some set) (kind : key.kind ≡ ReplicaSet)
        (leaves : IfSome w.put (λ new. IfSome (state h (present h) w.key) (λ was. Replaces set was new))) where
      in_later : r ≤ present later
      in_later = over r (present h) (present later) low one_step
        where
          over : (a b c : ℕ) → a ≤ b → b + 1 ≤ c → a ≤ c
          over a b c e f = omega (arith, e, f)

      onward : Onward o later (present h)
      onward k was new pod before after same is = by (is_same_key k w.key) refl (sym (state_after k) ∙ after)
        where
          stood : state h (present h) k ≡ Some was
          stood = sym (state_before k) ∙ before

          replaced : (put old : Option Data) → put ≡ Some new → old ≡ Some was → IfSome put (λ new. IfSome old (λ was. Replaces set was new)) → Replaces set was new
          replaced put old e f l = subst (λ x. IfSome x (λ was. Replaces set was new)) f (subst (λ y. IfSome y (λ new. IfSome old (λ was. Replaces set was new))) e l)

          by : (b : Bool) → is_same_key k w.key ≡ b → cond b w.put (state h (present h) k) ≡ Some new → IsOfSet o later new
          by true named put =
              replaced_stays o later reached r (present h) key k set was new in_later (state_stands h (write w ∷ []) r key low ∙ at) kind before is
              (replaced w.put (state h (present h) w.key) put (ap (state h (present h)) (sym (same_name k w.key named)) ∙ stood) leaves)
          by false named put = subst (IsOfSet o later) (object_of (sym stood ∙ put)) is
            where
              object_of : Some was ≡ Some new → was ≡ new
              object_of e = cc

      pub write_stays : (ps : List Data) → Stays o ps h → Stays o ps later
      write_stays ps is =
          let still = stays_still h (write w ∷ []) ps is in
          (subst (λ n. Upto o later n ps) (sym (present-write h w)) (one_more o ps later reached (present h) one_step still.1 onward still.0), known_still h (write w ∷ []) (present later) ps (up (present h) (present later) one_step) is.1)
        where
          up : (a b : ℕ) → a + 1 ≤ b → a ≤ b
          up a b e = omega (arith, e)

      known_new : (ps : List Data) (new : Data) → state later (present h + 1) w.key ≡ Some new → Known later (present later) ps → Known later (present later) (ps ++ new ∷ [])
      known_new [] new now known = ((present h + 1, w.key, one_step, now), tt)
      known_new (p ∷ ps) new now known = (known.0, known_new ps new now known.1)

      -- with the pod that it puts where none was
      pub create_stays : (ps : List Data) (new : Data) → w.put ≡ Some new → state h (present h) w.key ≡ None → is_same_key w.key w.key ≡ true → IsOfSet o later new → Stays o ps h → Stays o (ps ++ new ∷ []) later
      create_stays ps new put none itself is stays =
          let now : state later (present h + 1) w.key ≡ Some new = state_after w.key ∙ ap (λ b. cond b w.put (state h (present h) w.key)) itself ∙ put in
          let all = write_stays ps stays in (
            subst (λ n. Upto o later n (ps ++ new ∷ [])) (sym (present-write h w))
                (with_new o ps later reached (present h) one_step w.key new now (state_before w.key ∙ none) is (subst (λ n. Upto o later n ps) (present-write h w) all.0)),
            known_new ps new now all.1,
          )

-- ---- the command of a turn

module _ (o : Owner) (pods : List Data) (c : Cluster) (t : Turn) (sets : is_replica_sets (Some t) ≡ true) (seen : AllByRecursion (IsSeen (IsServerList (history c))) t.sights) (before : IsReached (history c)) (is : Stays o pods (history c)) where
  abbrev h : History
  h = history c

  -- the pods that are made for the set
  abbrev pub made_in : History → List Data
  made_in later = cond (is_turn_for o (Some t)) (pods_created h (drop (length (writes h)) (writes later))) []

  none_made : pods_created h (drop (length (writes h)) (writes h)) ≡ []
  none_made = ap (pods_created h) (drop_all (length (writes h)) (writes h) (omega arith))

  made_news : (x : Option Write) → pods_created h (drop (length (writes h)) (writes (with_write h x))) ≡ news h x
  made_news None = none_made
  made_news (Some v) = ap (pods_created h) (just o h v) ∙ append-nil (news h (Some v))

  none_of : (b : Bool) (ms : List Data) → ms ≡ [] → pods ++ cond b ms [] ≡ pods
  none_of true ms e = ap (λ x. pods ++ x) e ∙ append-nil pods
  none_of false ms e = append-nil pods

  abbrev pub Goal : History → Type 0
  Goal later = IsReached later → Stays o (pods ++ made_in later) later

  pub quiet : Goal h
  quiet reached = subst (λ ps. Stays o ps h) (sym (none_of (is_turn_for o (Some t)) (pods_created h (drop (length (writes h)) (writes h))) none_made)) is

  module _ (set : Data) (looked : set_looked_at (hand t) ≡ Some set) where
    abbrev key : Key
    key = t.work_key.key

    there : (r : ℕ) × (r ≤ present h) × (state h r key ≡ Some set) × (key.kind ≡ ReplicaSet)
    there = set_seen h t set seen looked

    -- what makes no pod
    edited : (x : Option Write) → news h x ≡ [] → IfSome x (λ w. IfSome w.put (λ new. IfSome (state h (present h) w.key) (λ was. Replaces set was new))) → Goal (with_write h x)
    edited x none leaves reached =
        subst (λ ps. Stays o ps (with_write h x)) (sym (none_of (is_turn_for o (Some t)) (pods_created h (drop (length (writes h)) (writes (with_write h x)))) (made_news x ∙ none))) (by x leaves reached)
      where
        by : (x : Option Write) → IfSome x (λ w. IfSome w.put (λ new. IfSome (state h (present h) w.key) (λ was. Replaces set was new))) → IsReached (with_write h x) → Stays o pods (with_write h x)
        by None leaves reached = is
        by (Some w) leaves reached = write_stays o h w reached there.0 key set there.1 there.2 there.3 leaves pods is

    -- the set of a turn for it
    of_turn : (j : Controller) (g : Hand) → list_any (is_set o) (one_of (owner_by j g)) ≡ true → set_looked_at g ≡ Some set → is_set o (record { key = g.key; uid = unwrap_or (uid set) [] }) ≡ true
    of_turn controller.Deployment g e f = cc
    of_turn controller.Collector g e f = cc
    of_turn controller.ReplicaSet g e f =
        alone (is_set o (record { key = g.key; uid = unwrap_or (uid set) [] })) (sym (ap (λ x. list_any (is_set o) (one_of (option_map {U = Owner} (λ s. record { key = g.key; uid = unwrap_or (uid s) [] }) x))) f) ∙ e)
      where
        alone : (b : Bool) → (b || false) ≡ true → b ≡ true
        alone true e = refl
        alone false e = cc

    abbrev moment : List ℕ
    moment = c.session.moment

    -- ---- a pod that is made of the set's template
    module _ (p : Data) (read : object_in Pod (new_pod key set) ≡ Ok p) where
      abbrev place : Key
      place = new_name Pod key.namespace p (entries_at h (present h)) (present h)

      abbrev new : Data
      new = new_objects.created Pod (present h + 1) key.namespace place.name moment p

      abbrev wrote : Write
      wrote = record { key = place; put = Some new }

      read_plain : reading Pod (new_pod key set) ≡ Ok p
      read_plain = plain (reading Pod (new_pod key set)) p read

      new_is_of_set : is_turn_for o (Some t) ≡ true → IsOfSet o (h ++ write wrote ∷ []) new
      new_is_of_set own =
          let two = plan_creates o t.work_key.controller (hand t) set own looked in
          let named = has_uid o key set two.0 (ap is_some (traced h there.0 key set before there.1 there.2).2) in
          record {
            controlled =
                ap (list_any (is_set o)) (new_pods_are_of_their_set key set p (present h + 1) place.name moment there.3 read_plain)
                ∙ ap (λ b. b || false) (of_turn t.work_key.controller (hand t) own looked);
            matched = (
              there.0,
              key,
              set,
              up there.0 (present h) (present (h ++ write wrote ∷ [])) there.1 (present_grows h (write wrote ∷ [])),
              there.3,
              state_stands h (write wrote ∷ []) there.0 key there.1 ∙ there.2,
              its_uid o.uid (uid set) named.1,
              new_pods_match_their_set key set p (present h + 1) key.namespace place.name moment (ap (λ kind. reading kind set) (sym there.3) ∙ stored_reads h there.0 key set before there.2)
                  (sets_match_their_templates h there.0 key set before there.3 there.2) read_plain,
            );
          }
        where
          up : (a b c : ℕ) → a ≤ b → b ≤ c → a ≤ c
          up a b c e f = omega (arith, e, f)

      new_stays : is_some (found place (entries_at h (present h))) ≡ false → Goal (h ++ write wrote ∷ [])
      new_stays free reached = by (is_turn_for o (Some t)) refl
        where
          none : state h (present h) place ≡ None
          none = sym (found-state h place) ∙ none_from (found place (entries_at h (present h))) free

          leaves : IfSome (state h (present h) place) (λ was. Replaces set was new)
          leaves = of_none (λ was. Replaces set was new) (state h (present h) place) none

          one : pods_created h (drop (length (writes h)) (writes (h ++ write wrote ∷ []))) ≡ new ∷ []
          one = made_news (Some wrote) ∙ ap (λ old. created old (Some new)) none

          by : (b : Bool) → is_turn_for o (Some t) ≡ b → Stays o (pods ++ cond b (pods_created h (drop (length (writes h)) (writes (h ++ write wrote ∷ [])))) []) (h ++ write wrote ∷ [])
          by true own =
              subst (λ ms. Stays o (pods ++ ms) (h ++ write wrote ∷ [])) (sym one)
              (create_stays o h wrote reached there.0 key set there.1 there.2 there.3 leaves pods new refl none (is_itself place) (new_is_of_set own) is)
          by false other = subst (λ ps. Stays o ps (h ++ write wrote ∷ [])) (sym (append-nil pods)) (write_stays o h wrote reached there.0 key set there.1 there.2 there.3 leaves pods is)

    made : Goal (with_write h (write_of (accept (create_object Pod key.namespace (new_pod key set)) h moment)))
    made =
        of_create (λ u. Goal (with_write h (write_of u))) (λ f. quiet) Pod key.namespace (object_in Pod (new_pod key set)) (entries_at h (present h)) (present h) moment (λ p read valid fits free room. new_stays p read free)

    -- ---- by what is planned
    by_plan : (x : Command) → Planned (WasPod h) key set x → Goal (with_write h (write_of (accept (requested t x) h moment)))
    by_plan _ creates = made
    by_plan _ (releases j d a b) =
        edited (write_of (accept (requested t (update j (released set d))) h moment)) (edits_are_no_news (version_answered t.issues) (update j (released set d)) h moment before refl)
        (planned_writes h before key set (version_answered t.issues) moment (update j (released set d)) (releases j d a b))
    by_plan _ (adopts j d a b) =
        edited (write_of (accept (requested t (update j (adopted key set d))) h moment)) (edits_are_no_news (version_answered t.issues) (update j (adopted key set d)) h moment before refl)
        (planned_writes h before key set (version_answered t.issues) moment (update j (adopted key set d)) (adopts j d a b))
    by_plan _ (deletes j u) =
        edited (write_of (accept (requested t (delete j u None None)) h moment)) (edits_are_no_news (version_answered t.issues) (delete j u None None) h moment before refl)
        (planned_writes h before key set (version_answered t.issues) moment (delete j u None None) (deletes j u))
    by_plan _ (reports d) =
        edited (write_of (accept (requested t (update_status key d)) h moment)) (edits_are_no_news (version_answered t.issues) (update_status key d) h moment before refl)
        (planned_writes h before key set (version_answered t.issues) moment (update_status key d) (reports d))

  -- what is issued next leaves the set's pods its own, with those that it makes
  pub issued : (x : Command) (rest : List Command) → left t ≡ x ∷ rest → Goal (with_write h (write_of (accept (requested t x) h c.session.moment)))
  issued x rest next = let n = planned_next (WasPod h) t x rest sets next (pods_seen h t seen) in by_plan n.0 n.1 x n.2

-- ---- the action of a worker

module _ (o : Owner) (pods : List Data) (p : ControlPlane) (w : ℕ) (reached : IsReached (history p.cluster)) (is : Stays o pods (history p.cluster))
    (seen : (t : Turn) → slice_get p.manager.turns w ≡ Some (Some t) → AllByRecursion (IsSeen (IsServerList (history p.cluster))) t.sights) where
  abbrev m : Manager
  m = p.manager

  abbrev made_of : Option Turn → History → List Data
  made_of u later = cond (is_turn_for o u) (pods_created (history p.cluster) (drop (length (writes (history p.cluster))) (writes later))) []

  abbrev pub After : Option Turn → History → Type 0
  After u later = IsReached later → Stays o (pods ++ made_of u later) later

  goes : (t : Turn) → is_replica_sets (Some t) ≡ true → AllByRecursion (IsSeen (IsServerList (history p.cluster))) t.sights → (e : Delivery) (n : NextStep) → Stands t n
      → After (Some t) (history (after_request (carry_out (client p.cluster) w t e n m).request p.cluster))
  goes t sets looks e (look k) (to_look _ rest u) = quiet o pods p.cluster t sets looks reached is
  goes t sets looks e ask_satisfied (to_ask rest u) = quiet o pods p.cluster t sets looks reached is
  goes t sets looks e (read k) (to_read _ rest u a) = quiet o pods p.cluster t sets looks reached is
  goes t sets looks e (expect y) (to_expect _ u a x z) = quiet o pods p.cluster t sets looks reached is
  goes t sets looks delivered (issue x) (to_issue _ rest u a b f g) = issued o pods p.cluster t sets looks reached is x rest g
  goes t sets looks answer_lost (issue x) (to_issue _ rest u a b f g) = issued o pods p.cluster t sets looks reached is x rest g
  goes t sets looks dropped (issue x) (to_issue _ rest u a b f g) = quiet o pods p.cluster t sets looks reached is
  goes t sets looks e finish to_finish = quiet o pods p.cluster t sets looks reached is

  -- a worker in a turn of the ReplicaSet controller
  pub acted : (a : Action) (t : Turn) → slice_get m.turns w ≡ Some (Some t) → is_replica_sets (Some t) ≡ true → After (Some t) (history (step p (works w a)).plane.cluster)
  acted a t here sets =
      by_counted (λ d n z. After (Some t) (history d)) (step_in p (works w a))
      (by_act (λ (x : Acted). After (Some t) (history (after_request x.request p.cluster))) (client p.cluster) w a m (quiet o pods p.cluster t sets (seen t here) reached is)
      (λ at synced. absurd (other (sym at ∙ here))) (λ u e at. subst (λ v. After (Some v) (history (after_request (carry_out (client p.cluster) w u e (next u) m).request p.cluster))) (same u at) (goes u (ap (λ v. is_replica_sets (Some v)) (same u at) ∙ sets) (seen u at) e (next u) (stands u))))
    where
      other : Some None ≡ Some (Some t) → ⊥
      other e = cc

      same : (u : Turn) → slice_get m.turns w ≡ Some (Some u) → u ≡ t
      same u at = turn_of (sym at ∙ here)
        where
          turn_of : Some (Some u) ≡ Some (Some t) → u ≡ t
          turn_of e = cc
