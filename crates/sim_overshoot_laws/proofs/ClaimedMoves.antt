-- As followers move, changes are handled and workers act, the pods of a set that is let alone stay claimed.
use Rattle.std.proofs.Common.{◌≡◌, ◌≤◌, ◌⊎◌, inl, inr, ◌+◌, ◌-◌, ◌==◌, ◌&&◌, ℕ, List, [], ◌∷◌, ◌++◌, length, Bool, true, false, Option, Some, None, slice_get, refl, sym, ap, ◌∙◌, subst, arith, append_assoc}
use Rattle.std.proofs.lemmas.List.{drop_all}
use mathlib.Core.Bool.{true≢false}
use Rattle.spec_api.specs.declared.kinds.Kind.{Kind}
use Rattle.spec_api.specs.declared.kinds.Kind.TheVariants.{ConfigMap, Pod, ReplicaSet, Deployment}
use Rattle.spec_api.specs.History.{History, Write, writes, present, list as listed}
use Rattle.spec_api.specs.ObjectRequests.{Request}
use Rattle.spec_api.specs.Reached.{IsReached}
use Rattle.spec_api.specs.Streams.{text_of_lines}
use Rattle.spec_client_go.specs.Expectations.{Owner}
use Rattle.spec_client_go.specs.Informers.{applied, all_applied}
use Rattle.spec_client_go.specs.declared.reflectors.End.{End}
use Rattle.spec_client_go.specs.declared.reflectors.Phase.{Phase}
use Rattle.spec_client_go.specs.declared.reflectors.Phase.TheVariants.{Listing, Streaming, Watching}
use Rattle.spec_client_go.specs.Reflectors.{Delta, replace, Listed, list_delta, Fed, fed, fed_in, nothing}
use Rattle.spec_client_go.specs.WorkQueues.{handed}
use Rattle.spec_server.specs.Snapshots.{Snapshot}
use Rattle.spec_laws.specs.SentLaws.{whole}
use Rattle.reflector.specs.Laws.{IsAtStart}
use Rattle.spec_sim.specs.declared.initial_syncs.InitialSync.{InitialSync}
use Rattle.spec_sim.specs.declared.initial_syncs.InitialSync.TheVariants as sync
use Rattle.spec_sim.specs.Clusters.{Cluster, history, follower, with_follower, request, compact, moves, restart}
use Rattle.spec_sim.specs.Followers.{Link, Follower, Notification, begun, streaming_at, after_list, after_open, after_expiry, after_bytes, after_cut}
use Rattle.spec_sim.specs.Moves.{Move, answers_after, left_open, listed_of, with_link, move, move_by}
use Rattle.sim_cluster_laws.specs.ClusterLaws.{IsFollowed}
use Rattle.sim_cluster_laws.specs.FollowerLaws.{IsLinked, IsFollowing}
use Rattle.sim_cluster_laws.specs.LeadLaws.{Leads, IsLed}
use Rattle.spec_sim.specs.ControlPlanes.{ControlPlane, Step, in_cluster, handle, works, tick, client, after_request, handle_in, step_in, step}
use Rattle.spec_sim.specs.Managers.{Manager, Acted, Action, take_key, carry_out, act}
use Rattle.spec_sim.specs.NextSteps.{next}
use Rattle.spec_sim.specs.Turns.{Turn}
use Rattle.sim_worker_laws.proofs.Acting.{by_act}
use Rattle.sim_worker_laws.proofs.Counting.{by_counted, by_tick}
use Rattle.sim_overshoot_laws.specs.Reserves.{born_after}
use Rattle.sim_overshoot_laws.proofs.Asking.{none_after}
use Rattle.sim_overshoot_laws.proofs.Claimed.{ClaimsIn, born_in, none_since, claims_later}
use Rattle.sim_overshoot_laws.proofs.ClaimedSteps.{IsComing, IsAsking, IsBegun, IsSettled}
use Rattle.sim_overshoot_laws.proofs.FirstStreams.{ReplacesAt, Closes, AsksForAll, StaysQuiet, written, read_on, stays_quiet, opened_closes}
use Rattle.sim_overshoot_laws.proofs.OpenMoves.{coming, by_linked_move}

le : (a b c : ℕ) → a ≤ b → b ≤ c → a ≤ c
le a b c e f = omega arith

-- deltas that lead from list to list never go back
pub leads_rise : (h : History) (k : Kind) (m : Snapshot) (ds : List Delta) → Leads h k m ds → m.revision ≤ (all_applied m ds).revision
leads_rise h k m [] all = omega arith
leads_rise h k m (d ∷ ds) all = le m.revision (applied m d).revision (all_applied (applied m d) ds).revision all.0 (leads_rise h k (applied m d) ds all.3)

-- ---- moves of the follower of pods

module _ (o : Owner) (size : ℕ) (h : History) (f : Follower) (ts : List (Option Turn)) (reached : IsReached h) (following : IsFollowing h Pod f) (led : IsLed h Pod f) (is : IsSettled o (writes h) f ts) where
  abbrev Begun : Follower → Type 0
  Begun g = IsBegun o (writes h) g

  abbrev Settled : Follower → Type 0
  Settled g = IsSettled o (writes h) g ts

  -- where nothing is published, and nothing else waits to be handled
  unpublished : (g : Follower) → g.has_listed ≡ f.has_listed → g.informer.published ≡ f.informer.published → g.unhandled ≡ f.unhandled → (Begun f → Begun g) → Settled g
  unpublished g listed published unhandled begun =
      record {
        listed = λ e. subst (λ (s : Snapshot). ClaimsIn o (writes h) s.revision) (sym published) (is.listed (sym listed ∙ e));
        waits = λ e. let w = is.waits (sym listed ∙ e) in record { rests = w.rests; has_none = unhandled ∙ w.has_none; begun = begun w.begun };
      }

  none_born : born_in o (present h) (writes h) ≡ 0
  none_born = ap (born_after o _) (drop_all (present h - 1) (writes h) (less (length (writes h))))
    where
      less : (n : ℕ) → n ≤ n + 1 - 1
      less n = omega arith

  abbrev list : Listed
  list = listed_of Pod (answers_after Pod size h)

  listed_begun : Begun f → Begun (after_list (listed_of Pod (answers_after Pod size h)) f)
  listed_begun (inl b) = inr (present h, list.objects, [], ap (λ ds. ds ++ list_delta list ∷ []) b.0, none_since o (writes h) (present h) (still (present h)), none_born)
    where
      still : (n : ℕ) → n ≤ n
      still n = omega arith
  listed_begun (inr (r, os, ds, first, claims, none)) = inr (r, os, ds ++ list_delta list ∷ [], ap (λ xs. xs ++ list_delta list ∷ []) first, claims, none)

  -- ---- until all is taken in

  not_watching : (p : Phase) → AsksForAll p → p ≡ Watching → ⊥
  not_watching Listing asks e = cc
  not_watching Streaming asks e = cc
  not_watching Watching (inl e) w = cc
  not_watching Watching (inr e) w = cc

  -- who watches has taken all in
  watches_begun : (g : Follower) → g.informer.pending ≡ f.informer.pending → f.reflector.phase ≡ Watching → Begun f → Begun g
  watches_begun g same watches (inl (empty, zero, inl lists)) = absurd (not_watching f.reflector.phase (inl lists) watches)
  watches_begun g same watches (inl (empty, zero, inr (streams, c))) = absurd (not_watching f.reflector.phase (inr streams) watches)
  watches_begun g same watches (inr (r, os, ds, first, claims, none)) = inr (r, os, ds, same ∙ first, claims, none)

  -- a stream is opened
  streams_begun : f.reflector.phase ≡ Streaming → f.link ≡ None → Begun f → Begun (with_link (streaming_at (present h) (listed h (whole Pod) (present h))) f)
  streams_begun streams none (inr b) = inr b
  streams_begun streams none (inl (empty, zero, asks)) =
      let clear = subst (IsLinked h Pod f.reflector) none following.linked in
      let start : IsAtStart f.reflector = record { streams = streams; initial = clear.initial; holds = clear.holds } in
      inl (empty, zero, inr (streams, (present h, none_since o (writes h) (present h) (still (present h)), none_born, opened_closes h Pod f.reflector reached following.kind start)))
    where
      still : (n : ℕ) → n ≤ n
      still n = omega arith

  cut_begun : Begun f → Begun (after_cut f)
  cut_begun (inl (empty, zero, inl lists)) = inl (empty, zero, inl lists)
  cut_begun (inl (empty, zero, inr (streams, c))) = inl (empty, zero, inr (streams, tt))
  cut_begun (inr b) = inr b

  -- more is written
  written_begun : (l m : Link) (t : List ℕ) → f.link ≡ Some l → coming Pod m ≡ coming Pod l ++ t → Begun f → Begun (with_link m f)
  written_begun l m t some is (inr b) = inr b
  written_begun l m t some is (inl (empty, zero, inl lists)) = inl (empty, zero, inl lists)
  written_begun l m t some is (inl (empty, zero, inr (streams, c))) = inl (empty, zero, inr (streams, by (subst (IsComing o (writes h) f.reflector) some c)))
    where
      by : IsComing o (writes h) f.reflector (Some l) → IsComing o (writes h) f.reflector (Some m)
      by (r, claims, none, closes) = (r, claims, none, subst (Closes r f.reflector) (sym is) (written r f.reflector (coming Pod l) t closes))

  -- ---- more is read

  module _ (l : Link) (bytes rest : List ℕ) (some : f.link ≡ Some l) (whole_of : bytes ++ rest ≡ l.unread) where
    abbrev read : Fed
    read = fed f.reflector bytes

    abbrev left : Option End → Option Link
    left e = left_open e (record l { unread = rest })

    abbrev Goal : Option Link → Type 0
    Goal m = Begun (after_bytes read m f)

    parts : bytes ++ (rest ++ text_of_lines Pod l.initial) ≡ coming Pod l
    parts = sym (append_assoc bytes rest (text_of_lines Pod l.initial)) ∙ ap (λ t. t ++ text_of_lines Pod l.initial) whole_of

    empty_after : f.informer.pending ≡ [] → read.deltas ≡ [] → f.informer.pending ++ read.deltas ≡ []
    empty_after empty none = ap (λ ds. ds ++ read.deltas) empty ∙ none

    ended_asks : AsksForAll read.after.phase → IsAsking o (writes h) read.after None
    ended_asks (inl lists) = inl lists
    ended_asks (inr streams) = inr (streams, tt)

    quiet_asks : (r : ℕ) → ClaimsIn o (writes h) r → born_in o r (writes h) ≡ 0 → Closes r f.reflector (coming Pod l) → read.deltas ≡ [] → StaysQuiet f.reflector read → (e : Option End) → read.ended ≡ e
        → IsAsking o (writes h) read.after (left e)
    quiet_asks r claims none closes quiet stays (Some e) ended = ended_asks stays.asks
    quiet_asks r claims none closes quiet stays None ended =
        inr (stays.streams ended, (r, claims, none, read_on r f.reflector bytes (rest ++ text_of_lines Pod l.initial) quiet ended (subst (Closes r f.reflector) (sym parts) closes)))

    by_start : (r : ℕ) → f.informer.pending ≡ [] → f.reflector.revision ≡ 0 → f.reflector.phase ≡ Streaming → ClaimsIn o (writes h) r → born_in o r (writes h) ≡ 0 → Closes r f.reflector (coming Pod l)
        → (read.deltas ≡ []) ⊎ ReplacesAt r read.deltas → Goal (left read.ended)
    by_start r empty zero streams claims none closes (inl quiet) =
        let stays = stays_quiet f.reflector bytes streams quiet in
        inl (empty_after empty quiet, stays.revision ∙ zero, quiet_asks r claims none closes quiet stays read.ended refl)
    by_start r empty zero streams claims none closes (inr (os, later, is)) = inr (r, os, later, ap (λ ds. ds ++ read.deltas) empty ∙ is, claims, none)

    by_coming : f.informer.pending ≡ [] → f.reflector.revision ≡ 0 → f.reflector.phase ≡ Streaming → IsComing o (writes h) f.reflector (Some l) → Goal (left read.ended)
    by_coming empty zero streams (r, claims, none, closes) =
        by_start r empty zero streams claims none closes (closes.starts bytes (rest ++ text_of_lines Pod l.initial) parts)

    read_begun : Begun f → Goal (left read.ended)
    read_begun (inl (empty, zero, inl lists)) =
        let none : read ≡ nothing f.reflector = ap (λ x. fed_in x (f.reflector.buffered ++ bytes) f.reflector) lists in
        inl (empty_after empty (ap (λ (x : Fed). x.deltas) none), ap (λ (x : Fed). x.after.revision) none ∙ zero, inl (ap (λ (x : Fed). x.after.phase) none ∙ lists))
    read_begun (inl (empty, zero, inr (streams, c))) = by_coming empty zero streams (subst (IsComing o (writes h) f.reflector) some c)
    read_begun (inr (r, os, ds, first, claims, none)) = inr (r, os, ds ++ read.deltas, ap (λ xs. xs ++ read.deltas) first, claims, none)

  -- ---- what is published

  published_claims : (f.reflector.revision == 0) ≡ false → (b : Bool) → f.has_listed ≡ b → ClaimsIn o (writes h) (all_applied f.informer.published f.informer.pending).revision
  published_claims named true e = claims_later o (writes h) f.informer.published.revision _ (leads_rise h Pod f.informer.published f.informer.pending led) (is.listed e)
  published_claims named false e = by (is.waits e).begun
    where
      by : Begun f → ClaimsIn o (writes h) (all_applied f.informer.published f.informer.pending).revision
      by (inl b) = absurd (true≢false (sym (ap (λ n. n == 0) b.1) ∙ named))
      by (inr (r, os, ds, first, claims, none)) =
          let s = f.informer.published in
          let leads : Leads h Pod s (replace r os ∷ ds) = subst (Leads h Pod s) first led in
          subst (λ xs. ClaimsIn o (writes h) (all_applied s xs).revision) (sym first)
          (claims_later o (writes h) r (all_applied (applied s (replace r os)) ds).revision (leads_rise h Pod (applied s (replace r os)) ds leads.3) claims)

  pub moves_settle : (m : Move) → Settled (move_by Pod (answers_after Pod size h) f m).follower
  moves_settle m =
      let a = answers_after Pod size h in
      by_linked_move Settled Pod a f is (unpublished (after_list (listed_of Pod a) f) refl refl refl listed_begun)
      (λ watches. unpublished (after_open f) refl refl refl (watches_begun (after_open f) refl watches))
      (λ streams none. unpublished (with_link (streaming_at a.present a.members) f) refl refl refl (streams_begun streams none))
      (λ watches. unpublished (after_expiry f) refl refl refl (watches_begun (after_expiry f) refl watches))
      (λ l n t some more. unpublished (with_link n f) refl refl refl (written_begun l n t some more))
      (λ l bytes rest some whole_of. let x = fed f.reflector bytes in unpublished (after_bytes x (left_open x.ended (record l { unread = rest })) f) refl refl refl (read_begun l bytes rest some whole_of))
      (unpublished (after_cut f) refl refl refl cut_begun)
      (λ named. record { listed = λ e. published_claims named f.has_listed refl; waits = λ e. absurd (true≢false e) }) m

-- ---- other steps

-- at first all pods are asked for
pub begins_asking : (o : Owner) (ws : List Write) (i : InitialSync) → IsBegun o ws (begun i Pod)
begins_asking o ws sync.List = inl (refl, refl, inl refl)
begins_asking o ws sync.Stream = inl (refl, refl, inr (refl, tt))

module _ (o : Owner) (p : ControlPlane) (followed : IsFollowed p.cluster) (led : IsLed (history p.cluster) Pod p.cluster.pods) where
  abbrev c : Cluster
  c = p.cluster

  abbrev ts : List (Option Turn)
  ts = p.manager.turns

  abbrev Is : Cluster → Manager → Type 0
  Is d m = IsSettled o (writes (history d)) d.pods m.turns

  moved : (k : Kind) (m : Move) → (let d = with_follower k (move k c.session.window (history c) (follower k c) m).follower c in IsSettled o (writes (history d)) c.pods ts → Is d p.manager)
  moved ConfigMap m is = is
  moved ReplicaSet m is = is
  moved Deployment m is = is
  moved Pod m is = moves_settle o c.session.window (history c) c.pods ts followed.0 (followed.2 Pod) led is m

  -- a change of pods is handled only once a list was published
  handled_pod : (f : Follower) (n : Notification) (ns : List Notification) → f.unhandled ≡ n ∷ ns → IsSettled o (writes (history c)) f ts → IsSettled o (writes (history c)) (record f { unhandled = ns }) ts
  handled_pod f n ns e is = record { listed = is.listed; waits = λ l. absurd (some (sym (is.waits l).has_none ∙ e)) }
    where
      some : [] ≡ n ∷ ns → ⊥
      some x = cc

  handled : (k : Kind) (ns : List Notification) → (follower k c).unhandled ≡ ns → (let q = (handle_in k ns p).plane in IsSettled o (writes (history q.cluster)) c.pods ts → Is q.cluster q.manager)
  handled k [] e is = is
  handled ConfigMap (n ∷ ns) e is = is
  handled ReplicaSet (n ∷ ns) e is = is
  handled Deployment (n ∷ ns) e is = is
  handled Pod (n ∷ ns) e is = handled_pod c.pods n ns e is

  -- a worker's action gives it a turn only once a list was published
  turned : (r : Option Request) (m : Manager) → (c.pods.has_listed ≡ false → (w : ℕ) (t : Turn) → slice_get m.turns w ≡ Some (Some t) → ⊥) → IsSettled o (writes (history (after_request r c))) c.pods ts → Is (after_request r c) m
  turned None m rests is = record { listed = is.listed; waits = λ l. let w = is.waits l in record { rests = rests l; has_none = w.has_none; begun = w.begun } }
  turned (Some q) m rests is = record { listed = is.listed; waits = λ l. let w = is.waits l in record { rests = rests l; has_none = w.has_none; begun = w.begun } }

  abbrev Acts : Acted → Type 0
  Acts x = IsSettled o (writes (history (after_request x.request p.cluster))) p.cluster.pods p.manager.turns → IsSettled o (writes (history (after_request x.request p.cluster))) (after_request x.request p.cluster).pods x.manager.turns

  have_pods : (a b x y : Bool) → (a && b && x && y) ≡ true → b ≡ true
  have_pods true true x y e = refl
  have_pods true false x y e = cc
  have_pods false b x y e = cc

  acted : (w : ℕ) (a : Action) → Acts (act (client c) w a p.manager)
  acted w a =
      by_act Acts (client c) w a p.manager (λ is. is)
      (λ here synced is. turned (take_key w (handed p.manager.board.work) p.manager).request (take_key w (handed p.manager.board.work) p.manager).manager
      (λ l. absurd (true≢false (sym (have_pods c.config_maps.has_listed c.pods.has_listed c.replica_sets.has_listed c.deployments.has_listed synced) ∙ l))) is)
      (λ t d here is. turned (carry_out (client c) w t d (next t) p.manager).request (carry_out (client c) w t d (next t) p.manager).manager (λ l. absurd ((is.waits l).rests w t here)) is)

  in_step : (s : Step) → (let q = (step_in p s).plane in IsSettled o (writes (history q.cluster)) c.pods ts → Is q.cluster q.manager)
  in_step (in_cluster (request t)) is = is
  in_step (in_cluster (compact r)) is = is
  in_step (in_cluster (moves k m)) is = moved k m is
  in_step (in_cluster restart) is =
      record { listed = λ e. absurd (true≢false (sym e)); waits = λ e. record { rests = none_after ts; has_none = refl; begun = begins_asking o (writes (history c)) c.initial } }
  in_step (handle k) is = handled k (follower k c).unhandled refl is
  in_step (works w a) is = acted w a is
  in_step (tick n) is = by_tick (λ d m x. IsSettled o (writes (history d)) p.cluster.pods p.manager.turns → IsSettled o (writes (history d)) d.pods m.turns) n p (λ y. y) (λ y. y) is

  pub settled_step : (s : Step) → (let q = (step p s).plane in IsSettled o (writes (history q.cluster)) c.pods ts → Is q.cluster q.manager)
  settled_step s is =
      let same : writes (history (step p s).plane.cluster) ≡ writes (history (step_in p s).plane.cluster) = by_counted (λ d m x. writes (history d) ≡ writes (history (step_in p s).plane.cluster)) (step_in p s) refl in
      by_counted (λ d m x. Is d m) (step_in p s) (in_step s (subst (λ ws. IsSettled o ws c.pods ts) same is))
