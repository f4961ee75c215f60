-- Each object that is there was shown by a change, and that change owed its key.
use Rattle.std.proofs.Common.{◌≡◌, ◌⊎◌, inl, inr, ◌&&◌, ◌||◌, ℕ, List, [], ◌∷◌, ◌++◌, Bool, true, false, cond, is_some, Option, Some, None, IfSome, option_map, Ordering, Less, Equal, Greater, refl, sym, ap, ◌∙◌, subst}
use Rattle.std.specs.BTreeSet.{insert_key}
use Rattle.std.specs.Ordering.{match_ordering}
use Rattle.serde_json.specs.Data.{Data}
use Rattle.spec_api.specs.declared.kinds.Kind.{Kind}
use Rattle.spec_api.specs.History.{History, found, list, present, state, seen, up_to, entries_at}
use Rattle.spec_api.specs.Keys.{Key, is_same_key}
use Rattle.spec_api.specs.Reached.{IsReached}
use Rattle.spec_api.proofs.PutLaws.{same_name, IsAscending-after_all, found-after_all, found-viewed}
use Rattle.spec_client_go.specs.declared.controller.Controller.{Controller}
use Rattle.spec_client_go.specs.declared.controller.Controller.TheVariants.{ReplicaSet, Deployment, Collector}
use Rattle.spec_client_go.specs.Informers.{Looks, Informer}
use Rattle.spec_client_go.specs.OwedKeys.{Change, one_of, of_both, changed, own_key, itself, with_keys, for_controller, sets_to_look, sets_to_look_by, deployments_to_look, deployments_to_look_by, items_to_look, dependents_left, keys_of}
use Rattle.spec_client_go.specs.OwnerReferences.{owner_keys}
use Rattle.spec_client_go.specs.Reflectors.{name_in}
use Rattle.spec_client_go.specs.Shifts.{Shift}
use Rattle.spec_client_go.specs.WorkQueues.{WorkKey, work_key_cmp}
use Rattle.spec_client_go.proofs.WorkKeyOrder.{work_key_tells}
use Rattle.spec_laws.specs.SentLaws.{whole}
use Rattle.spec_laws.proofs.SentChanges.{name_is}
use Rattle.spec_laws.proofs.SentObjects.{IsHeld}
use Rattle.spec_laws.proofs.Stored.{last_held, all_stored, AreStored-up_to}
use Rattle.spec_sim.specs.Clusters.{history, looks}
use Rattle.spec_sim.specs.declared.initial_syncs.InitialSync.{InitialSync}
use Rattle.spec_sim.specs.Followers.{Notification}
use Rattle.spec_sim.specs.Turns.{Turn}
use Rattle.spec_sim.specs.ControlPlanes.{ControlPlane, Step, handle, opened, run, step, change_of}
use Rattle.sim_worker_laws.specs.OwedLaws.{IsAmong, tells_taken, was_taken}
use Rattle.sim_rest_laws.specs.Rests.{IsAtRest}
use Rattle.sim_rest_laws.specs.ShiftRunLaws.{members, all_published, Lead, shifts}
use Rattle.sim_rest_laws.specs.LastTurnLaws.{IsLastTurn, BeganOnce}
use Rattle.sim_rest_laws.specs.OwedObjectLaws.{LooksAfter, ObjectsOweTheirKeys, ObjectsHadTheirTurns}
use Rattle.sim_rest_laws.proofs.LastTurns.{handled, was_taken_then, last_turn, taken_both}
use Rattle.sim_rest_laws.proofs.ShiftRuns.{changes_lead, same_rank}

-- ---- keys that are added

abbrev job : Controller → Key → WorkKey
job c k = record { controller = c; key = k }

kept : (q j : WorkKey) (ks : List WorkKey) → IsAmong q ks → IsAmong q (insert_key work_key_cmp ks j)
kept q j [] i = absurd i
kept q j (k ∷ ks) i = by (work_key_cmp j k) (kept q j ks) i
  where
    by : (o : Ordering) → (IsAmong q ks → IsAmong q (insert_key work_key_cmp ks j)) → IsAmong q (k ∷ ks) → IsAmong q (match_ordering o (j ∷ k ∷ ks) (k ∷ ks) (k ∷ insert_key work_key_cmp ks j))
    by Less rest i = inr i
    by Equal rest i = i
    by Greater rest (inl e) = inl e
    by Greater rest (inr i) = inr (rest i)

put : (j : WorkKey) (ks : List WorkKey) → IsAmong j (insert_key work_key_cmp ks j)
put j [] = inl refl
put j (k ∷ ks) = by (work_key_cmp j k) refl (put j ks)
  where
    by : (o : Ordering) → work_key_cmp j k ≡ o → IsAmong j (insert_key work_key_cmp ks j) → IsAmong j (match_ordering o (j ∷ k ∷ ks) (k ∷ ks) (k ∷ insert_key work_key_cmp ks j))
    by Less e rest = inl refl
    by Equal e rest = inl (sym (work_key_tells j k e))
    by Greater e rest = inr rest

all_kept : (q : WorkKey) (js ks : List WorkKey) → IsAmong q ks → IsAmong q (with_keys ks js)
all_kept q [] ks i = i
all_kept q (j ∷ js) ks i = all_kept q js (insert_key work_key_cmp ks j) (kept q j ks i)

all_put : (q : WorkKey) (js ks : List WorkKey) → IsAmong q js → IsAmong q (with_keys ks js)
all_put q [] ks i = absurd i
all_put q (j ∷ js) ks (inl e) = all_kept q js (insert_key work_key_cmp ks j) (subst (λ x. IsAmong x (insert_key work_key_cmp ks j)) e (put j ks))
all_put q (j ∷ js) ks (inr i) = all_put q js (insert_key work_key_cmp ks j) i

pub in_left : {A : Type 0} (x : A) (xs ys : List A) → IsAmong x xs → IsAmong x (xs ++ ys)
in_left x [] ys i = absurd i
in_left x (z ∷ xs) ys (inl e) = inl e
in_left x (z ∷ xs) ys (inr i) = inr (in_left x xs ys i)

pub in_right : {A : Type 0} (x : A) (xs ys : List A) → IsAmong x ys → IsAmong x (xs ++ ys)
in_right x [] ys i = i
in_right x (z ∷ xs) ys i = inr (in_right x xs ys i)

in_jobs : (c : Controller) (k : Key) (ks : List Key) → IsAmong k ks → IsAmong (job c k) (for_controller c ks)
in_jobs c k [] i = absurd i
in_jobs c k (x ∷ ks) (inl e) = inl (ap (job c) e)
in_jobs c k (x ∷ ks) (inr i) = inr (in_jobs c k ks i)

-- ---- what a change owes

module _ (c : Change) (l : Looks) (k : Key) where
  abbrev of_sets : List WorkKey
  of_sets = for_controller ReplicaSet (sets_to_look l c)

  abbrev of_deployments : List WorkKey
  of_deployments = for_controller Deployment (deployments_to_look l c)

  abbrev of_items : List WorkKey
  of_items = for_controller Collector (items_to_look l c)

  pub owed_set : IsAmong k (sets_to_look l c) → IsAmong (job ReplicaSet k) (keys_of c l)
  owed_set i =
      let q = job ReplicaSet k in all_put q (of_sets ++ (of_deployments ++ of_items)) [] (in_left q of_sets (of_deployments ++ of_items) (in_jobs ReplicaSet k (sets_to_look l c) i))

  pub owed_deployment : IsAmong k (deployments_to_look l c) → IsAmong (job Deployment k) (keys_of c l)
  owed_deployment i =
      let q = job Deployment k in
      all_put q (of_sets ++ (of_deployments ++ of_items)) []
      (in_right q of_sets (of_deployments ++ of_items) (in_left q of_deployments of_items (in_jobs Deployment k (deployments_to_look l c) i)))

  pub owed_item : IsAmong k (items_to_look l c) → IsAmong (job Collector k) (keys_of c l)
  owed_item i =
      let q = job Collector k in
      all_put q (of_sets ++ (of_deployments ++ of_items)) []
      (in_right q of_sets (of_deployments ++ of_items) (in_right q of_deployments of_items (in_jobs Collector k (items_to_look l c) i)))

-- the object that a change leaves
the_latest : (c : Change) (d : Data) (k : Key) → c.new ≡ Some d → own_key c.kind d ≡ k → IsAmong k (changed c)
the_latest c d k new own = subst (λ (o : Option Data). IsAmong k (one_of (option_map (own_key c.kind) (cond (is_some o) o c.old)))) (sym new) (inl own)

itself_there : (c : Change) (d : Data) (k : Key) → c.new ≡ Some d → own_key c.kind d ≡ k → IsAmong k (itself c)
itself_there c d k new own = subst (λ (o : Option Data). IsAmong k (one_of (option_map (own_key c.kind) o))) (sym new) (inl own)

pub owe_keys : ObjectsOweTheirKeys
owe_keys Collector s d l after new own =
    let c = change_of s in owed_item c l s.key (in_left s.key (itself c) (of_both owner_keys c ++ dependents_left l c) (itself_there c d s.key new own))
owe_keys ReplicaSet s d l after new own =
    let c = change_of s in
    owed_set c l s.key (subst (λ (k : Kind). IsAmong s.key (sets_to_look_by k l c)) (sym after) (the_latest c d s.key new own))
owe_keys Deployment s d l after new own =
    let c = change_of s in
    owed_deployment c l s.key (subst (λ (k : Kind). IsAmong s.key (deployments_to_look_by k l c)) (sym after) (the_latest c d s.key new own))

-- ---- the change that shows an object

record Shows (x : Key) (b : Option Data) (ss : List Shift) : Type 0 where
  change : Shift
  among : IsAmong change ss
  same : is_same_key x change.key ≡ true
  new : change.new ≡ b

later_shows : (x : Key) (b : Option Data) (s : Shift) (ss : List Shift) → Shows x b ss → Shows x b (s ∷ ss)
later_shows x b s ss h = record { change = h.change; among = inr h.among; same = h.same; new = h.new }

-- what changes lead to was there before them, or one of them shows it
last_shows : (x : Key) (a b : Option Data) (ss : List Shift) → Lead x a ss b → (a ≡ b) ⊎ Shows x b ss
last_shows x a b [] f = inl f
last_shows x a b (s ∷ ss) (inl f) = by (last_shows x s.new b ss f.2)
  where
    by : (s.new ≡ b) ⊎ Shows x b ss → (a ≡ b) ⊎ Shows x b (s ∷ ss)
    by (inl e) = inr (record { change = s; among = inl refl; same = f.0; new = e })
    by (inr h) = inr (later_shows x b s ss h)
last_shows x a b (s ∷ ss) (inr f) = by (last_shows x a b ss f.1)
  where
    by : (a ≡ b) ⊎ Shows x b ss → (a ≡ b) ⊎ Shows x b (s ∷ ss)
    by (inl e) = inl e
    by (inr h) = inr (later_shows x b s ss h)

-- the notification of a change
noticed : (s : Shift) (ns : List Notification) → IsAmong s (shifts ns) → (n : Notification) × IsAmong n ns × (n.shift ≡ s)
noticed s [] i = absurd i
noticed s (n ∷ ns) (inl e) = (n, inl refl, e)
noticed s (n ∷ ns) (inr i) = let m = noticed s ns i in (m.0, inr m.1, m.2)

-- ---- what is there

listed : (h : History) (x : Key) (d : Data) → state h (present h) x ≡ Some d → found x (list h (whole x.kind) (present h)) ≡ Some d
listed h x d is =
    found-viewed (whole x.kind) x (entries_at h (present h)) (IsAscending-after_all [] (up_to (present h) h) tt)
    ∙ ap (seen (whole x.kind) x) (found-after_all x [] (up_to (present h) h) tt ∙ is)
    ∙ ap (λ b. cond (b && true && true && true) (Some d) None) (same_rank x.kind)

pub named : (h : History) (x : Key) (d : Data) → IsReached h → state h (present h) x ≡ Some d → name_in (record { kind = x.kind; value = d }) ≡ x
named h x d reached is =
    let held : IsHeld x d =
    subst (λ (o : Option Data). IfSome o (IsHeld x)) is (last_held x 2 (up_to (present h) h) None tt (AreStored-up_to h (present h) (all_stored h reached))) in
    name_is x.kind x held.0 d refl held.1.kept

nothing_is_there : (d : Data) (o : Option Data) → o ≡ None → o ≡ Some d → ⊥
nothing_is_there d o e f = cc

or_right : (a b : Bool) → b ≡ true → (a || b) ≡ true
or_right true b e = refl
or_right false b e = e

module _ (window workers : ℕ) (initial : InitialSync) (before after : List Step) (c : Controller) (x : Key) (d : Data) where
  abbrev p : ControlPlane
  p = run (opened window workers initial) before

  abbrev h : History
  h = history (run p after).cluster

  module _ (once : BeganOnce p after) (rest : IsAtRest (run p after)) (reached : IsReached h) (looks_after : LooksAfter c x.kind) (is : state h (present h) x ≡ Some d) where
    taken : (n : Notification) → IsAmong n (all_published x.kind p after) → is_same_key x n.shift.key ≡ true → n.shift.new ≡ Some d → was_taken (job c x) p after ≡ true
    taken n among same new =
        let one : x ≡ n.shift.key = same_name x n.shift.key same in
        let hd = handled window workers initial before p after x.kind n refl (rest.followers x.kind).handled once.none among in
        let z = hd.0 in
        let s = (step (run p z.before) (handle x.kind)) in
        let own : name_in (record { kind = n.shift.key.kind; value = d }) ≡ n.shift.key = subst (λ (y : Key). name_in (record { kind = y.kind; value = d }) ≡ y) one (named h x d reached is) in
        let owed = owe_keys c n.shift d (looks (run p z.before).cluster) (subst (λ (y : Key). LooksAfter c y.kind) one looks_after) new own in
        let it =
        was_taken_then window workers initial before p after x.kind n (job c x) refl rest z
        (hd.1 (job c x) (subst (λ y. IsAmong (job c y) (keys_of (change_of n.shift) (looks (run p z.before).cluster))) (sym one) owed)) in
        subst (λ ss. was_taken (job c x) p ss ≡ true) (sym z.is)
        (taken_both (job c x) p z.before (handle x.kind ∷ z.after)
        ∙ or_right (was_taken (job c x) p z.before) (was_taken (job c x) (run p z.before) (handle x.kind ∷ z.after)) (or_right (tells_taken (job c x) s.outcome) (was_taken (job c x) s.plane z.after) it))

    had : (t : Turn) × IsLastTurn p after (job c x) t
    had =
        let none : found x (members x.kind p) ≡ None = ap (λ (i : Informer). found x i.published.members) (once.nothing x.kind) in
        let there : found x (members x.kind (run p after)) ≡ Some d = ap (found x) (rest.followers x.kind).shows ∙ listed h x d is in
        by none there
        (last_shows x (found x (members x.kind p)) (found x (members x.kind (run p after))) (shifts (all_published x.kind p after))
        (changes_lead p [] after x.kind x (once.nothing x.kind) once.none (once.once x.kind)))
      where
        by : found x (members x.kind p) ≡ None → found x (members x.kind (run p after)) ≡ Some d
            → (found x (members x.kind p) ≡ found x (members x.kind (run p after))) ⊎ Shows x (found x (members x.kind (run p after))) (shifts (all_published x.kind p after))
            → (t : Turn) × IsLastTurn p after (job c x) t
        by none there (inl e) = absurd (nothing_is_there d (found x (members x.kind p)) none (e ∙ there))
        by none there (inr s) =
            let n = noticed s.change (all_published x.kind p after) s.among in
            last_turn window workers initial before p after (job c x) refl rest once.none
            (taken n.0 n.1 (ap (λ (y : Shift). is_same_key x y.key) n.2 ∙ s.same) (ap (λ (y : Shift). y.new) n.2 ∙ s.new ∙ there))

pub had_turns : ObjectsHadTheirTurns
had_turns window workers initial before after c x d once rest reached looks_after is = had window workers initial before after c x d once rest reached looks_after is
