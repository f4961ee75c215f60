-- At rest, each live read in a last turn leads to what is there by changes that owed its key nothing.
use Rattle.std.proofs.Common.{◌≡◌, ◌⊎◌, inl, inr, ◌≤◌, ◌<◌, ◌==◌, ◌&&◌, ℕ, nat_lt, ltb-true, ltb-false, List, [], ◌∷◌, ◌++◌, Bool, true, false, cond, Option, Some, None, refl, sym, ap, ◌∙◌, subst, slice_get, append_assoc, append-nil, arith}
use Rattle.std.specs.List.{AllByRecursion}
use Rattle.serde_json.specs.Data.{Data}
use Rattle.spec_api.specs.declared.kinds.Kind.{Kind}
use Rattle.spec_api.specs.Events.{events, applied as events_applied}
use Rattle.spec_api.specs.History.{History, Entries, found, list, present, state, seen, up_to, entries_at}
use Rattle.spec_api.specs.Keys.{Key, key_cmp}
use Rattle.spec_api.specs.Kinds.{rank}
use Rattle.spec_api.proofs.PutLaws.{IsAscending, IsAscending-after_all, found-after_all, found-viewed}
use Rattle.spec_server.specs.Snapshots.{Snapshot}
use Rattle.spec_client_go.specs.Hands.{Read}
use Rattle.spec_client_go.specs.Informers.{Informer, applied, all_applied}
use Rattle.spec_client_go.specs.Reflectors.{Delta, replace, put, remove, mark, apply_delta, apply_deltas}
use Rattle.spec_client_go.specs.Shifts.{Shift, all_shifts}
use Rattle.spec_client_go.specs.WorkQueues.{WorkKey}
use Rattle.spec_laws.specs.SentLaws.{whole}
use Rattle.spec_laws.proofs.AppliedEvents.{list_applied, goes_on}
use Rattle.spec_laws.proofs.Runs.{Begins}
use Rattle.spec_sim.specs.declared.initial_syncs.InitialSync.{InitialSync}
use Rattle.spec_sim.specs.Clusters.{history, follower, request, compact, moves, restart}
use Rattle.spec_sim.specs.Moves as moving
use Rattle.spec_sim.specs.ControlPlanes.{ControlPlane, Step, in_cluster, handle, works, tick, opened, step, run}
use Rattle.spec_sim.specs.Managers as action
use Rattle.spec_sim.specs.Turns.{Turn, begun}
use Rattle.sim_worker_laws.specs.OwedLaws.{NoRestart}
use Rattle.sim_worker_laws.proofs.Growing.{state_stands}
use Rattle.sim_worker_laws.proofs.IssuedRuns.{AreReady, none_begins, ready_step, run_one}
use Rattle.sim_worker_laws.proofs.Lists.{all_map}
use Rattle.sim_worker_laws.proofs.Owed.{first_of_none}
use Rattle.sim_cluster_laws.specs.FollowerLaws.{list_at}
use Rattle.sim_cluster_laws.specs.LeadLaws.{Leads}
use Rattle.sim_cluster_laws.specs.PassLaws.{GivesAll, IsQuiet, Passes}
use Rattle.sim_cluster_laws.proofs.Leading.{leads_both, leads_past}
use Rattle.sim_cluster_laws.proofs.Passing.{passes_both, passes_past}
use Rattle.sim_control_plane_laws.proofs.Rising.{revisions_rise}
use Rattle.sim_rest_laws.specs.Rests.{IsAtRest}
use Rattle.sim_rest_laws.specs.ShiftRunLaws.{members, deltas_by, all_deltas, all_published, NoReplace, OnlyTheFirst, Lead, shifts}
use Rattle.sim_rest_laws.specs.TurnRunLaws.{ThereSince}
use Rattle.sim_rest_laws.specs.LastTurnLaws.{BeganOnce, IsLastTurn, at_take, since_take}
use Rattle.sim_rest_laws.specs.StillLaws.{OwedNothing, ShownIn}
use Rattle.sim_rest_laws.specs.WholeLaws.{LastReadsLead}
use Rattle.sim_rest_laws.proofs.LastTurns.{settled}
use Rattle.sim_rest_laws.proofs.Shifted.{ascending_deltas, lead_deltas}
use Rattle.sim_rest_laws.proofs.ShiftRuns.{run_both, none_split, deltas_both, none_later, all_shifts_both, applied_members, shown, shown_step, shown_run, members_run, changes_run, same_rank}
use Rattle.sim_rest_laws.proofs.Still.{all_from, unowed}
use Rattle.sim_rest_laws.proofs.Whole.{begins_at, at_point, list_stays, run_begins}
use Rattle.sim_rest_plane_laws.specs.PlanePassLaws.{StatesArePassed}
use Rattle.sim_rest_plane_laws.proofs.PlanesPass.{All, all_of, listed_names, all_reached, show_lists}

-- ---- deltas that skip nothing go through each list

pub record Through (h : History) (k : Kind) (m : Snapshot) (ds : List Delta) (r : ℕ) : Type 0 where
  pub before : List Delta
  pub after : List Delta
  pub is : ds ≡ before ++ after
  pub reaches : (all_applied m before).members ≡ list h (whole k) r
  pub low : (all_applied m before).revision ≤ r
  pub on : all_applied m before ≡ list_at h k (all_applied m before).revision
  pub led : Leads h k (all_applied m before) after
  pub passed : Passes h k (all_applied m before) after

no_gives : (d : Delta) (ds : List Delta) → NoReplace (d ∷ ds) → GivesAll d → ⊥
no_gives (replace r os) ds n g = n
no_gives (put o) ds n g = g
no_gives (remove r k) ds n g = g
no_gives (mark r) ds n g = g

none_after : (d : Delta) (ds : List Delta) → NoReplace (d ∷ ds) → NoReplace ds
none_after (replace r os) ds n = absurd n
none_after (put o) ds n = n
none_after (remove r k) ds n = n
none_after (mark r) ds n = n

pub through : (h : History) (k : Kind) (r : ℕ) (ds : List Delta) (m : Snapshot) → NoReplace ds → m ≡ list_at h k m.revision → Leads h k m ds → Passes h k m ds → m.revision ≤ r → r ≤ (all_applied m ds).revision
    → Through h k m ds r
through h k r [] m none is led passed low high =
    let one : m.revision ≡ r = omega (arith, low, high) in
    record { before = []; after = []; is = refl; reaches = ap (λ (s : Snapshot). s.members) is ∙ ap (list h (whole k)) one; low = low; on = is; led = tt; passed = tt }
through h k r (d ∷ ds) m none is led passed low high = by (nat_lt r (applied m d).revision) refl passed.0 (λ up. through h k r ds (applied m d) (none_after d ds none) led.2 led.3 passed.1 up high)
  where
    by : (b : Bool) → nat_lt r (applied m d).revision ≡ b → GivesAll d ⊎ IsQuiet h k m d → ((applied m d).revision ≤ r → Through h k (applied m d) ds r) → Through h k m (d ∷ ds) r
    by true e (inl g) more = absurd (no_gives d ds none g)
    by true e (inr quiet) more = record { before = []; after = d ∷ ds; is = refl; reaches = sym (quiet r low (ltb-true r (applied m d).revision e)); low = low; on = is; led = led; passed = passed }
    by false e x more =
        let t = more (ltb-false r (applied m d).revision e) in record { before = d ∷ t.before; after = t.after; is = ap (λ z. d ∷ z) t.is; reaches = t.reaches; low = t.low; on = t.on; led = t.led; passed = t.passed }

-- ---- all that is published

-- what a step publishes is nothing, or what waits
by_deltas : (P : List Delta → Type 0) (k : Kind) (p : ControlPlane) (s : Step) → P [] → P (follower k p.cluster).informer.pending → P (deltas_by k p s)
by_deltas P k p (in_cluster (request l)) a b = a
by_deltas P k p (in_cluster (compact r)) a b = a
by_deltas P k p (in_cluster (moves j moving.list)) a b = a
by_deltas P k p (in_cluster (moves j moving.watch)) a b = a
by_deltas P k p (in_cluster (moves j moving.stream)) a b = a
by_deltas P k p (in_cluster (moves j (moving.send n))) a b = a
by_deltas P k p (in_cluster (moves j moving.send_bookmark)) a b = a
by_deltas P k p (in_cluster (moves j (moving.deliver n))) a b = a
by_deltas P k p (in_cluster (moves j moving.deliver_all)) a b = a
by_deltas P k p (in_cluster (moves j moving.cut)) a b = a
by_deltas P k p (in_cluster (moves j moving.publish)) a b = by (rank j == rank k) ((follower k p.cluster).reflector.revision == 0)
  where
    by : (x y : Bool) → P (cond x (cond y [] (follower k p.cluster).informer.pending) [])
    by true true = a
    by true false = b
    by false y = a
by_deltas P k p (in_cluster restart) a b = a
by_deltas P k p (handle j) a b = a
by_deltas P k p (works w x) a b = a
by_deltas P k p (tick n) a b = a

module _ (window workers : ℕ) (initial : InitialSync) (k : Kind) where
  abbrev v : ControlPlane
  v = opened window workers initial

  abbrev Both : History → Snapshot → List Delta → Type 0
  Both h m ds = Leads h k m ds × Passes h k m ds

  both_led : (pre : List Step) (p : ControlPlane) (ss : List Step) → p ≡ run v pre → NoRestart ss → Both (history (run p ss).cluster) (shown k p) (all_deltas k p ss)
  both_led pre p [] is none = (tt, tt)
  both_led pre p (s ∷ ss) is none =
      let two = first_of_none s ss none in
      let q = (step p s).plane in
      let h = history (run q ss).cluster in
      let rest = both_led (pre ++ s ∷ []) q ss (ap (λ (x : ControlPlane). (step x s).plane) is ∙ sym (run_one v pre s)) two.1 in
      let at : shown k q ≡ all_applied (shown k p) (deltas_by k p s) = shown_step k p s two.0 in
      let on : Both h (all_applied (shown k p) (deltas_by k p s)) (all_deltas k q ss) = subst (λ m. Both h m (all_deltas k q ss)) at rest in
      let all : All p.cluster = subst (λ (x : ControlPlane). All x.cluster) (sym is) (all_of window workers initial pre) in
      let b : Begins (history p.cluster) h = run_begins p (s ∷ ss) in
      let i = (follower k p.cluster).informer in
      let led : Leads h k i.published i.pending = subst (λ g. Leads g k i.published i.pending) (sym b.1) (leads_past (history p.cluster) b.0 k i.published i.pending (all.0 k)) in
      let passed : Passes h k i.published i.pending = subst (λ g. Passes g k i.published i.pending) (sym b.1) (passes_past (history p.cluster) b.0 k i.published i.pending (all.0 k) (all.1 k)) in
      let here : Both h (shown k p) (deltas_by k p s) = by_deltas (Both h (shown k p)) k p s (tt, tt) (led, passed) in
      (leads_both h k (shown k p) (deltas_by k p s) (all_deltas k q ss) here.0 on.0, passes_both h k (shown k p) (deltas_by k p s) (all_deltas k q ss) here.1 on.1)

-- ---- where workers are in turns all was listed

ready : (p : ControlPlane) (ss : List Step) → AreReady p.cluster p.manager → AreReady (run p ss).cluster (run p ss).manager
ready p [] is = is
ready p (s ∷ ss) is = ready (step p s).plane ss (ready_step p s is)

-- ---- what is found in a list

pub found_in : (h : History) (r : ℕ) (x : Key) → found x (list h (whole x.kind) r) ≡ state h r x
found_in h r x =
    found-viewed (whole x.kind) x (entries_at h r) (IsAscending-after_all [] (up_to r h) tt)
    ∙ ap (seen (whole x.kind) x) (found-after_all x [] (up_to r h) tt)
    ∙ as_seen (state h r x)
  where
    as_seen : (o : Option Data) → seen (whole x.kind) x o ≡ o
    as_seen None = refl
    as_seen (Some d) = ap (λ b. cond (b && true && true && true) (Some d) None) (same_rank x.kind)

pub all_later : (P : Shift → Type 0) (xs ys : List Shift) → AllByRecursion P (xs ++ ys) → AllByRecursion P ys
all_later P [] ys a = a
all_later P (x ∷ xs) ys a = all_later P xs ys a.1

pub all_earlier : (P : Shift → Type 0) (xs ys : List Shift) → AllByRecursion P (xs ++ ys) → AllByRecursion P xs
all_earlier P [] ys a = tt
all_earlier P (x ∷ xs) ys a = (a.0, all_earlier P xs ys a.1)

pub none_before : (ds es : List Delta) → NoReplace (ds ++ es) → NoReplace ds
none_before [] es n = tt
none_before (replace r os ∷ ds) es n = absurd n
none_before (put o ∷ ds) es n = none_before ds es n
none_before (remove r k ∷ ds) es n = none_before ds es n
none_before (mark r ∷ ds) es n = none_before ds es n

-- from then on nothing of the kind was written
pub still_told : (h : History) (k : Kind) (a r : ℕ) → a ≤ r → r ≤ present h → events h (whole k) a (present h) ≡ [] → list h (whole k) a ≡ list h (whole k) r
still_told h k a r low high none =
    let parts = none_both (events h (whole k) a r) (events h (whole k) r (present h)) (sym (goes_on h (whole k) a r (present h) low high) ∙ none) in
    sym (ap (events_applied (list h (whole k) a)) parts) ∙ list_applied h (whole k) a r low
  where
    none_both : {A : Type 0} (xs ys : List A) → xs ++ ys ≡ [] → xs ≡ []
    none_both [] ys e = refl
    none_both (x ∷ xs) ys e = cc

-- ---- live reads

module _ (window workers : ℕ) (initial : InitialSync) (before after : List Step) (j : WorkKey) (t' : Turn) (once : BeganOnce (run (opened window workers initial) before) after)
    (rest : IsAtRest (run (run (opened window workers initial) before) after)) (z : IsLastTurn (run (opened window workers initial) before) after j t') where
  abbrev u : ControlPlane
  u = opened window workers initial

  abbrev p : ControlPlane
  p = run u before

  abbrev q : ControlPlane
  q = at_take p after j t' z

  abbrev since : List Step
  since = since_take p after j t' z

  abbrev h : History
  h = history (run p after).cluster

  abbrev up_to_take : List Step → List Step
  up_to_take x = z.before ++ works z.worker action.take ∷ x

  pub at_end : (x y : List Step) → since ≡ x ++ y → run (run q x) y ≡ run p after
  at_end x y e = sym (ap (run p) z.is ∙ run_both p z.before (works z.worker action.take ∷ since) ∙ ap (run q) e ∙ run_both q x y)

  here_is : (x : List Step) → run q x ≡ run u (before ++ up_to_take x)
  here_is = at_point window workers initial before after j t' z

  -- what is published since the take names a revision
  names_one : (x : List Step) (k : Kind) → NoRestart x → (shown k (run q x)).revision ≡ 0 → ⊥
  names_one x k none zero =
      let steps = before ++ up_to_take [] in
      let c = (run u steps).cluster in
      let hand = ap (λ (a : ControlPlane). slice_get a.manager.turns z.worker) (sym (here_is [])) ∙ z.taken in
      let was_listed : (follower k c).has_listed ≡ true = ready u steps (λ w t e. absurd (none_begins workers w t e)) z.worker (begun j) hand k in
      let up = revisions_rise window workers initial steps x k none in
      let now : (shown k (run (run u steps) x)).revision ≡ 0 = ap (λ (a : ControlPlane). (shown k (run a x)).revision) (sym (here_is [])) ∙ zero in
      listed_names window workers initial steps k was_listed (omega (arith, up, now))

  pub after_is : (x y : List Step) → since ≡ x ++ y → after ≡ up_to_take x ++ y
  after_is x y e = z.is ∙ ap (λ l. z.before ++ works z.worker action.take ∷ l) e ∙ sym (append_assoc z.before (works z.worker action.take ∷ x) y)

  at_point_of : (x : List Step) → run p (up_to_take x) ≡ run q x
  at_point_of x = run_both p z.before (works z.worker action.take ∷ x)

  -- nothing gives the whole map since the take
  pub none_replaced : (x y : List Step) (k : Kind) → since ≡ x ++ y → NoReplace (all_deltas k (run q x) y)
  none_replaced x y k e =
      let full = subst (λ l. OnlyTheFirst (all_deltas k p l)) (after_is x y e) (once.once k) in
      let split : OnlyTheFirst (all_deltas k p (up_to_take x) ++ all_deltas k (run q x) y) =
      subst (λ (a : ControlPlane). OnlyTheFirst (all_deltas k p (up_to_take x) ++ all_deltas k a y)) (at_point_of x) (subst OnlyTheFirst (deltas_both k p (up_to_take x) y) full) in
      let none_x = (none_split (up_to_take x) y (subst NoRestart (after_is x y e) once.none)).0 in
      let shown_now = shown_run k p (up_to_take x) none_x in
      by (all_deltas k p (up_to_take x)) split (ap (shown k) (sym (at_point_of x)) ∙ shown_now) (names_one x k (none_split x y (subst NoRestart e z.none)).0)
    where
      by : (ds : List Delta) → OnlyTheFirst (ds ++ all_deltas k (run q x) y) → shown k (run q x) ≡ all_applied (shown k p) ds → ((shown k (run q x)).revision ≡ 0 → ⊥) → NoReplace (all_deltas k (run q x) y)
      by [] only is named = absurd (named (ap (λ (m : Snapshot). m.revision) is ∙ ap (λ (i : Informer). i.published.revision) (once.nothing k)))
      by (d ∷ ds) only is named = none_later ds (all_deltas k (run q x) y) only

  pub apply_both : (ms : Entries) (ds es : List Delta) → apply_deltas ms (ds ++ es) ≡ apply_deltas (apply_deltas ms ds) es
  apply_both ms [] es = refl
  apply_both ms (d ∷ ds) es = apply_both (apply_delta ms d) ds es

  pub ascending_at : (x : List Step) (k : Kind) → NoRestart (up_to_take x) → IsAscending key_cmp (members k (run q x))
  ascending_at x k none =
      subst (λ (a : ControlPlane). IsAscending key_cmp (members k a)) (at_point_of x)
      (subst (IsAscending key_cmp) (sym (members_run k p (up_to_take x) none))
      (ascending_deltas (all_deltas k p (up_to_take x)) (members k p) (subst (λ (i : Informer). IsAscending key_cmp i.published.members) (sym (once.nothing k)) tt)))

  pub shows_at : (x : List Step) (k : Kind) → (let c = (run q x).cluster in ((shown k (run q x)).members ≡ list (history c) (whole k) (shown k (run q x)).revision) × ((shown k (run q x)).revision ≤ present (history c)))
  shows_at x k =
      subst (λ (a : ControlPlane). ((shown k a).members ≡ list (history a.cluster) (whole k) (shown k a).revision) × ((shown k a).revision ≤ present (history a.cluster))) (sym (here_is x))
      (show_lists window workers initial (before ++ up_to_take x) k)

  -- some deltas make of what is published at a point the list at any later revision
  pub reaches_at : (x y : List Step) (k : Kind) (r : ℕ) → since ≡ x ++ y → (shown k (run q x)).revision ≤ r → r ≤ present h → Through h k (shown k (run q x)) (all_deltas k (run q x) y) r
  reaches_at x y k r e low far =
      let qx = run q x in
      let s = shown k qx in
      let ds = all_deltas k qx y in
      let none_y = (none_split x y (subst NoRestart e z.none)).1 in
      let both : Both window workers initial k h s ds =
      subst (λ (a : ControlPlane). Both window workers initial k (history a.cluster) s ds) (at_end x y e) (both_led window workers initial k (before ++ up_to_take x) qx y (here_is x) none_y) in
      let shows = shows_at x k in
      let stays = list_stays (history qx.cluster) h k s.revision (begins_at window workers initial before after j t' z x y e) shows.1 in
      let is : s ≡ list_at h k s.revision = λ i. record { members = (shows.0 ∙ sym stays.0) i; revision = s.revision } in
      let end : shown k (run p after) ≡ all_applied s ds = ap (shown k) (sym (at_end x y e)) ∙ shown_run k qx y none_y in
      by s ds r (none_replaced x y k e) is both.0 both.1 low end far (nat_lt (all_applied s ds).revision r) refl
    where
      lead_on_list : (s : Snapshot) (ds : List Delta) → s ≡ list_at h k s.revision → Leads h k s ds → all_applied s ds ≡ list_at h k (all_applied s ds).revision
      lead_on_list s [] is led = is
      lead_on_list s (d ∷ ds) is led = lead_on_list (applied s d) ds led.2 led.3

      by : (s : Snapshot) (ds : List Delta) (r : ℕ) → NoReplace ds → s ≡ list_at h k s.revision → Leads h k s ds → Passes h k s ds → s.revision ≤ r → shown k (run p after) ≡ all_applied s ds → r ≤ present h
          → (c : Bool) → nat_lt (all_applied s ds).revision r ≡ c → Through h k s ds r
      by s ds r none is led passed low end far false c = through h k r ds s none is led passed low (ltb-false (all_applied s ds).revision r c)
      by s ds r none is led passed low end far true c =
          let up_to_date = rest.followers k in
          let last = (shown k (run p after)).revision in
          let named : last ≡ (all_applied s ds).revision = ap (λ (m : Snapshot). m.revision) end in
          let under : (all_applied s ds).revision < r = ltb-true (all_applied s ds).revision r c in
          let below : last ≤ r = omega (arith, named, under) in
          let past : list h (whole k) last ≡ list h (whole k) r = still_told h k last r below far up_to_date.told in
          let now : list h (whole k) last ≡ list h (whole k) (present h) = still_told h k last (present h) (omega (arith, below, far)) (omega arith) up_to_date.told in
          record {
            before = ds;
            after = [];
            is = sym (append-nil ds);
            reaches = ap (λ (m : Snapshot). m.members) (sym end) ∙ up_to_date.shows ∙ sym now ∙ past;
            low = omega (arith, under);
            on = lead_on_list s ds is led;
            led = tt;
            passed = tt;
          }

  -- so at the present revision of this point
  pub reaches : (x y : List Step) (k : Kind) → since ≡ x ++ y → Through h k (shown k (run q x)) (all_deltas k (run q x) y) (present (history (run q x).cluster))
  reaches x y k e =
      let g = history (run q x).cluster in
      reaches_at x y k (present g) e (shows_at x k).1 (list_stays g h k (present g) (begins_at window workers initial before after j t' z x y e) (omega arith)).1

  -- and the changes lead through what was there at that revision
  pub states_passed : (x y : List Step) → since ≡ x ++ y → (key : Key) (r : ℕ) → (shown key.kind (run q x)).revision ≤ r → r ≤ present h
      → (ss : List Shift) × (ts : List Shift) × Lead key (found key (members key.kind (run q x))) ss (state h r key) × Lead key (state h r key) ts (state h (present h) key)
      × AllByRecursion (OwedNothing j (ShownIn q since)) ss × AllByRecursion (OwedNothing j (ShownIn q since)) ts
  states_passed x y e key r low far =
      let k = key.kind in
      let qx = run q x in
      let ms = members k qx in
      let t = reaches_at x y k r e low far in
      let none = subst NoReplace t.is (none_replaced x y k e) in
      let none_x = (none_split (up_to_take x) y (subst NoRestart (after_is x y e) once.none)).0 in
      let none_y = (none_split x y (subst NoRestart e z.none)).1 in
      let up = ascending_at x k none_x in
      let mid = apply_deltas ms t.before in
      let ss = all_shifts ms t.before in
      let ts = all_shifts mid t.after in
      let was : found key mid ≡ state h r key = ap (found key) (sym (applied_members (shown k qx) t.before) ∙ t.reaches) ∙ found_in h r key in
      let deltas : apply_deltas mid t.after ≡ members k (run p after) =
      sym (apply_both ms t.before t.after) ∙ ap (apply_deltas ms) (sym t.is) ∙ sym (members_run k qx y none_y) ∙ ap (members k) (at_end x y e) in
      let is_now : found key (apply_deltas mid t.after) ≡ state h (present h) key = ap (found key) (deltas ∙ (rest.followers k).shows) ∙ found_in h (present h) key in
      let st = settled window workers initial before [] after j t' once rest z in
      let all = all_from (OwedNothing j (ShownIn q since)) (all_published k qx y) (λ n i. unowed q since j x y k n e i (st.unowed x y e k n i)) in
      let parts : shifts (all_published k qx y) ≡ ss ++ ts = changes_run k qx y none_y ∙ ap (all_shifts ms) t.is ∙ all_shifts_both ms t.before t.after in
      let owed = subst (AllByRecursion (OwedNothing j (ShownIn q since))) parts all in (
        ss,
        ts,
        subst (Lead key (found key ms) ss) was (lead_deltas key t.before ms (none_before t.before t.after none) up),
        subst (λ o. Lead key o ts (state h (present h) key)) was (subst (Lead key (found key mid) ts) is_now (lead_deltas key t.after mid (none_later t.before t.after none) (ascending_deltas t.before ms up))),
        all_earlier (OwedNothing j (ShownIn q since)) ss ts owed,
        all_later (OwedNothing j (ShownIn q since)) ss ts owed,
      )

  abbrev pub Led : Read → Type 0
  Led r = (ss : List Shift) × Lead r.key r.found ss (state h (present h) r.key) × AllByRecursion (OwedNothing j (ShownIn q since)) ss

  pub read_leads : (r : Read) → ThereSince q z.during r → Led r
  read_leads r there =
      let x = there.0 in
      let fin = works z.worker action.finish ∷ z.after in
      let y = there.1 ++ fin in
      let e : since ≡ x ++ y = ap (λ l. l ++ fin) there.2 ∙ append_assoc x there.1 fin in
      by x y e there.3 (reaches x y r.key.kind e)
    where
      by : (x y : List Step) (e : since ≡ x ++ y) → (let g = history (run q x).cluster in r.found ≡ state g (present g) r.key) → Through h r.key.kind (shown r.key.kind (run q x)) (all_deltas r.key.kind (run q x) y) (present (history (run q x).cluster))
          → Led r
      by x y e found_then t =
          let k = r.key.kind in
          let qx = run q x in
          let g = history qx.cluster in
          let ms = members k qx in
          let first = t.before in
          let then = t.after in
          let none_x = (none_split (up_to_take x) y (subst NoRestart (after_is x y e) once.none)).0 in
          let none_y = (none_split x y (subst NoRestart e z.none)).1 in
          let b : Begins g h = begins_at window workers initial before after j t' z x y e in
          let mid = apply_deltas ms first in
          let ss = all_shifts mid then in
          let was : found r.key mid ≡ r.found =
          ap (found r.key) (sym (applied_members (shown k qx) first) ∙ t.reaches)
          ∙ found_in h (present g) r.key
          ∙ ap (λ a. state a (present g) r.key) b.1
          ∙ state_stands g b.0 (present g) r.key (omega arith)
          ∙ sym found_then in
          let deltas : apply_deltas mid then ≡ members k (run p after) =
          sym (apply_both ms first then) ∙ ap (apply_deltas ms) (sym t.is) ∙ sym (members_run k qx y none_y) ∙ ap (members k) (at_end x y e) in
          let is_now : found r.key (apply_deltas mid then) ≡ state h (present h) r.key = ap (found r.key) (deltas ∙ (rest.followers k).shows) ∙ found_in h (present h) r.key in
          let none_then : NoReplace then = none_later first then (subst NoReplace t.is (none_replaced x y k e)) in
          let led = lead_deltas r.key then mid none_then (ascending_deltas first ms (ascending_at x k none_x)) in
          let s = settled window workers initial before [] after j t' once rest z in
          let all = all_from (OwedNothing j (ShownIn q since)) (all_published k qx y) (λ n i. unowed q since j x y k n e i (s.unowed x y e k n i)) in
          let parts : shifts (all_published k qx y) ≡ all_shifts ms first ++ ss = changes_run k qx y none_y ∙ ap (all_shifts ms) t.is ∙ all_shifts_both ms first then in (
            ss,
            subst (λ o. Lead r.key o ss (state h (present h) r.key)) was (subst (Lead r.key (found r.key mid) ss) is_now led),
            all_later (OwedNothing j (ShownIn q since)) (all_shifts ms first) ss (subst (AllByRecursion (OwedNothing j (ShownIn q since))) parts all),
          )

pub reads_lead : LastReadsLead
reads_lead window workers initial before after j t once rest z =
    all_map (ThereSince (at_take (run (opened window workers initial) before) after j t z) z.during) (Led window workers initial before after j t once rest z) (read_leads window workers initial before after j t once rest z) t.reads z.since.reads

pub states_are_passed : StatesArePassed
states_are_passed window workers initial before after j t once rest z x y e key r low far = states_passed window workers initial before after j t once rest z x y e key r low far
