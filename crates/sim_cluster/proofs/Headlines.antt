-- What holds of every cluster.
use Rattle.std.proofs.Common.{◌≡◌, ◌≤◌, ◌<◌, refl, sym, ap, ap₂, subst, ◌∙◌, ℕ, zero, suc, List, [], ◌∷◌, ◌++◌, length, map, take, Option, Some, None, IfSome, Result, Ok, Err, OnOk, OnErr, IfErr, arith}
use Rattle.std.proofs.lemmas.List.{append_cancel_left, length-append, take-map}
use Rattle.std.proofs.Math.Seq.{take-length}
use Rattle.serde_json.specs.Data.{Data}
use Rattle.spec_api.specs.declared.kinds.Kind.{Kind}
use Rattle.spec_api.specs.History as history
use Rattle.spec_api.specs.History.{History, write, present, state, list, unfiltered}
use Rattle.spec_api.specs.Keys.{Key}
use Rattle.spec_api.specs.Metadata.{version}
use Rattle.spec_api.specs.ObjectRequests.{Request}
use Rattle.spec_api.specs.Verbs.{accept, write_of, with_write}
use Rattle.spec_laws.specs.LifecycleLaws.{ReplacesVersion}
use Rattle.spec_line_protocol.specs.Lines.{line_of}
use Rattle.spec_server.specs.Snapshots.{Snapshot}
use Rattle.line_session.proofs.Followed.{same_outcome}
use Rattle.line_session.specs.SessionStates.{accepted, reply_for, of_write, written_by, effect_on}
use Rattle.spec_sim.specs.Clusters as clusters
use Rattle.spec_sim.specs.Clusters.{Cluster, ClusterStep, request, compact, moves, restart}
use Rattle.spec_sim.specs.Followers.{Follower}
use Rattle.sim_cluster_laws.proofs.Requests.{replaces}
use Rattle.sim_cluster_laws.proofs.Runs.{rise_one}
use Rattle.sim_cluster_laws.specs.ClusterLaws.{NoRestart, Asks, NamesVersion}
use Rattle.sim_steps.specs.Steps.{step_of}
use Rattle.sim_steps.specs.declared.steps.Step.{Step}
use Rattle.sim_cluster.specs.declared.stopped.Stopped.{Stopped}
use Rattle.sim_cluster.specs.Headline.{ShowsLists, RevisionsRise, ReplacesNamedVersion, ReplacesNamedVersions}
use Rattle.line_session.specs.RecordedStates.{entry_in, with_entry, journal_after}
use Rattle.line_session.proofs.RecordedWrites.{made}
use Rattle.sim_cluster.specs.Standing.{StandsFor, Stands}
use Rattle.sim_cluster.specs.ClusterStates.{ClusterState, published, step, run}
use Rattle.sim_cluster.proofs.Taking.{run_last}
use Rattle.sim_cluster.proofs.Stood.{same_follower, steps_follow, stood, run_stood}

-- ---- lists

lists_by : (w : ClusterState) (c : Cluster) (k : Kind) → StandsFor w c → (let p = (clusters.follower k c).informer.published in p.members ≡ list (clusters.history c) (unfiltered k None) p.revision)
    → (published k w).members ≡ list w.journal (unfiltered k None) (published k w).revision
lists_by w c k is shows =
    let same : published k w ≡ (clusters.follower k c).informer.published = ap (λ (f : Follower). f.informer.published) (same_follower w c is k) in
    ap (λ (p : Snapshot). p.members) same ∙ shows
    ∙ ap₂ (λ r h. list h (unfiltered k None) r) (sym (ap (λ (p : Snapshot). p.revision) same)) (sym is.journal)

past_by : (w : ClusterState) (c : Cluster) (k : Kind) → StandsFor w c → (clusters.follower k c).informer.published.revision ≤ present (clusters.history c)
    → (published k w).revision ≤ present w.journal
past_by w c k is past =
    subst (λ (f : Follower). f.informer.published.revision ≤ present w.journal) (sym (same_follower w c is k))
    (subst (λ h. (clusters.follower k c).informer.published.revision ≤ present h) (sym is.journal) past)

pub shown : (w : ClusterState) → Stands w → ShowsLists w
unfolding Stands
shown w (c, is, followed) =
    record {
      lists = λ k. lists_by w c k is (ap (λ (z : Snapshot). z.members) (followed.2 k).published);
      past = λ k. past_by w c k is (omega (arith, (followed.2 k).passed, (followed.2 k).reached));
    }

pub shown_after : {X E : Type 0} (w v : ClusterState) (s : ClusterStep) (r : Result X E) → Stands w → OnOk r (v ≡ (step w s).cluster) → OnErr r (v ≡ w) → ShowsLists v
shown_after w v s (Ok x) is moved stays = subst ShowsLists (sym moved) (shown (step w s).cluster (stood w s is))
shown_after w v s (Err e) is moved stays = subst ShowsLists (sym stays) (shown w is)

-- ---- revisions

rise_step : (w : ClusterState) (s : ClusterStep) (k : Kind) → NoRestart (s ∷ []) → Stands w → (published k w).revision ≤ (published k (step w s).cluster).revision
unfolding Stands
rise_step w s k none (c, is, followed) =
    subst (λ (f : Follower). f.informer.published.revision ≤ (published k (step w s).cluster).revision) (sym (same_follower w c is k))
    (subst (λ (f : Follower). (clusters.follower k c).informer.published.revision ≤ f.informer.published.revision)
    (sym (same_follower (step w s).cluster (clusters.step c s).cluster (steps_follow w c s is) k)) (rise_one k c s none followed))

pub risen_after : {X E : Type 0} (w v : ClusterState) (s : ClusterStep) (r : Result X E) → Stands w → OnOk r (v ≡ (step w s).cluster) → OnErr r (v ≡ w) → RevisionsRise (s ∷ []) w v
risen_after w v s (Ok x) is moved stays = record { rise = λ k none. subst (λ (u : ClusterState). (published k w).revision ≤ (published k u).revision) (sym moved) (rise_step w s k none is) }
risen_after w v s (Err e) is moved stays = record { rise = λ k none. subst (λ (u : ClusterState). (published k w).revision ≤ (published k u).revision) (sym stays) (omega arith) }

first_none : (s : ClusterStep) (ss : List ClusterStep) → NoRestart (s ∷ ss) → NoRestart (s ∷ []) × NoRestart ss
first_none (request t) ss none = (tt, none)
first_none (compact r) ss none = (tt, none)
first_none (moves j m) ss none = (tt, none)
first_none restart ss none = absurd none

-- over the first steps of a list
rise_taken : (n : ℕ) (w : ClusterState) (ss : List ClusterStep) (k : Kind) → NoRestart ss → Stands w → (published k w).revision ≤ (published k (run w (take n ss))).revision
rise_taken zero w ss k none is = omega arith
rise_taken (suc n) w [] k none is = omega arith
rise_taken (suc n) w (s ∷ ss) k none is =
    let parts = first_none s ss none in
    let here = rise_step w s k parts.0 is in
    let later = rise_taken n (step w s).cluster ss k parts.1 (stood w s is) in omega (arith, here, later)

-- ---- named versions

-- what a step that asks a request adds to the journal
nothing_added : (h : History) (w : history.Write) → h ≡ h ++ write w ∷ [] → ⊥
nothing_added h w is = let long = ap length is in omega (arith, long, length-append h (write w ∷ []))

same_last : (x w : history.Write) → write x ∷ [] ≡ write w ∷ [] → Some x ≡ Some w
same_last x w is = cc

written_is : (h : History) (e : Option history.Write) (w : history.Write) → with_write h e ≡ h ++ write w ∷ [] → e ≡ Some w
written_is h None w is = absurd (nothing_added h w is)
written_is h (Some x) w is = same_last x w (append_cancel_left h (write x ∷ []) (write w ∷ []) is)

asked_effect : (w : ClusterState) (t : List ℕ) (q : Request) → Asks t q → effect_on w.session (line_of t) ≡ of_write (write_of (accepted w.session q))
asked_effect w t q a = ap (effect_on w.session) a.3 ∙ ap (λ r. of_write (written_by (reply_for w.session r))) a.4

abbrev pub Replaced : History → Key → List ℕ → history.Write → Type 0
Replaced h k named w = (existing : Data) × (w.key ≡ k) × (state h (present h) k ≡ Some existing) × (version existing ≡ Some named)

-- a request that names a version
pub request_replaced : (w : ClusterState) (q : Request) (k : Key) (named : List ℕ) (x : history.Write) → Stands w → NamesVersion w.journal k named q
    → with_write w.journal (write_of (accepted w.session q)) ≡ w.journal ++ write x ∷ [] → Replaced w.journal k named x
unfolding Stands
request_replaced w q k named x (c, is, followed) names adds =
    let h = clusters.history c in
    let o = accept q h c.session.moment in
    let wrote : write_of o ≡ Some x = written_is w.journal (write_of o) x (ap (λ a. with_write w.journal (write_of a)) (sym (same_outcome w.session c.session is.session q)) ∙ adds) in
    let by_law : ReplacesVersion k named h o = replaces h k named q c.session.moment (subst (λ j. NamesVersion j k named q) is.journal names) in
    let there : Replaced h k named x = subst (λ e. IfSome e (Replaced h k named)) wrote by_law in
    subst (λ j. Replaced j k named x) (sym is.journal) there

-- a line that asks one
pub replaced : (w : ClusterState) (t : List ℕ) (q : Request) (k : Key) (named : List ℕ) (x : history.Write) → Stands w → Asks t q → NamesVersion w.journal k named q
    → journal_after w.session w.journal (line_of t) ≡ w.journal ++ write x ∷ [] → Replaced w.journal k named x
replaced w t q k named x is a names adds = request_replaced w q k named x is names (sym (ap (λ e. with_entry w.journal (entry_in e)) (asked_effect w t q a) ∙ made w.journal (write_of (accepted w.session q))) ∙ adds)

pub replaced_after : {X E : Type 0} (w v : ClusterState) (s : ClusterStep) (r : Result X E) → Stands w → OnOk r (v ≡ (step w s).cluster) → OnErr r (v ≡ w)
    → ReplacesNamedVersion s w.journal v.journal
unfolding step
replaced_after w v s (Ok y) is moved stays =
    record {
      replaces = λ t q k named x at a names adds. replaced w t q k named x is a names (sym (ap (λ (u : ClusterState). u.journal) moved ∙ ap (λ s. (step w s).cluster.journal) at) ∙ adds);
    }
replaced_after w v s (Err e) is moved stays =
    record {
      replaces = λ t q k named x at a names adds. absurd (nothing_added w.journal x (sym (ap (λ (u : ClusterState). u.journal) stays) ∙ adds));
    }

-- ---- runs

pub shown_run : {X : Type 0} (w v : ClusterState) (ss : List Step) (r : Result X Stopped) → Stands w → OnOk r (v ≡ run w (map step_of ss))
    → IfErr r (λ s. (s.taken < length ss) × (v ≡ run w (map step_of (take s.taken ss)))) → ShowsLists v
shown_run w v ss (Ok x) is ran stopped = subst ShowsLists (sym ran) (shown (run w (map step_of ss)) (run_stood w (map step_of ss) is))
shown_run w v ss (Err e) is ran stopped =
    subst ShowsLists (sym stopped.1) (shown (run w (map step_of (take e.taken ss))) (run_stood w (map step_of (take e.taken ss)) is))

risen_to : (w v : ClusterState) (ss : List ClusterStep) (n : ℕ) → Stands w → v ≡ run w (take n ss) → RevisionsRise ss w v
risen_to w v ss n is ran =
    record { rise = λ k none. subst (λ (u : ClusterState). (published k w).revision ≤ (published k u).revision) (sym ran) (rise_taken n w ss k none is) }

pub risen_run : {X : Type 0} (w v : ClusterState) (ss : List Step) (r : Result X Stopped) → Stands w → OnOk r (v ≡ run w (map step_of ss))
    → IfErr r (λ s. (s.taken < length ss) × (v ≡ run w (map step_of (take s.taken ss)))) → RevisionsRise (map step_of ss) w v
risen_run w v ss (Ok x) is ran stopped =
    risen_to w v (map step_of ss) (length (map step_of ss)) is (ran ∙ ap (run w) (sym (take-length (map step_of ss))))
risen_run w v ss (Err e) is ran stopped =
    risen_to w v (map step_of ss) e.taken is (stopped.1 ∙ ap (run w) (sym (take-map step_of e.taken ss)))

pub replaced_run : (w : ClusterState) (ss : List ClusterStep) → Stands w → ReplacesNamedVersions ss w
replaced_run w ss is =
    record {
      replaces = λ taken rest s at.
          let v = run w taken in
          subst (λ (u : ClusterState). ReplacesNamedVersion s v.journal u.journal) (sym (run_last (λ w s. (step w s).cluster) run (λ _. refl) (λ _ _ _. refl) w taken s)) (replaced_after {E = Unit {0}} v (step v s).cluster s (Ok (step v s)) (run_stood w taken is) refl tt);
    }
