-- What holds over every list of steps of a control plane.
use Rattle.std.proofs.Common.{◌≡◌, ◌≤◌, ◌⊎◌, sym, ap, subst, ◌∙◌, ℕ, List, [], ◌∷◌, ◌++◌, Some, IfSome}
use Rattle.serde_json.specs.Data.{Data}
use Rattle.spec_api.specs.History.{History, Write, write, present, state}
use Rattle.spec_api.specs.Keys.{Key}
use Rattle.spec_api.specs.Metadata.{version}
use Rattle.spec_api.specs.ObjectRequests.{Request}
use Rattle.spec_api.specs.Verbs.{Outcome, accept, history_after, write_of}
use Rattle.spec_laws.specs.LifecycleLaws.{ReplacesVersion}
use Rattle.spec_sim.specs.Clusters.{history, follower, request, compact, moves, restart}
use Rattle.sim_cluster_laws.specs.ClusterLaws.{NamesVersion}
use Rattle.spec_sim.specs.ControlPlanes.{ControlPlane, Step, in_cluster, handle, works, tick, step}
use Rattle.spec_sim.specs.Managers.{Manager}
use Rattle.spec_sim.specs.Managers as action
use Rattle.spec_sim.specs.Turns.{Turn, begun}
use Rattle.spec_client_go.specs.WorkQueues.{WorkKey}
use Rattle.sim_worker_laws.specs.TakeLaws.{HasInHand, HasNothing, TakesTheHead}
use Rattle.sim_worker_laws.proofs.IssuedRuns.{run_one}
use Rattle.sim_worker_laws.proofs.Owed.{nothing_forgotten}
use Rattle.sim_worker_laws.proofs.Takes.{only_takes, takes_give}
use Rattle.sim_control_plane_laws.proofs.PlaneRuns.{run_append}
use Rattle.sim_control_plane_laws.proofs.Replacing.{replaced, named_replaced}
use Rattle.sim_control_plane_laws.proofs.Rising.{revisions_rise}
use Rattle.sim_control_plane_laws.proofs.Asked.{written_is}
use Rattle.sim_control_plane_laws.proofs.Spared.{spared}
use Rattle.sim_overshoot_laws.proofs.MadePods.{no_overshoot}
use Rattle.world.specs.Taken.{Taken, opening}
use Rattle.world.specs.Headline.{plane_after, IsAskedBy, ReplacesNamedVersions, ForgetsNothing, RevisionsRise, TakesTheHeads, SparesLiveOwners, NeverOvershoots}

-- ---- conditional writes

abbrev Replaced : History → Key → List ℕ → Write → Type 0
Replaced h k named w = (existing : Data) × (w.key ≡ k) × (state h (present h) k ≡ Some existing) × (version existing ≡ Some named)

by_answer : (h g : History) (o : Outcome) (k : Key) (named : List ℕ) (w : Write) → g ≡ history_after h o → ReplacesVersion k named h o → g ≡ h ++ write w ∷ [] → Replaced h k named w
by_answer h g o k named w is by adds = subst (λ x. IfSome x (Replaced h k named)) (written_is h (write_of o) w (sym is ∙ adds)) by

replaced_by : (p : ControlPlane) (s : Step) (q : Request) (k : Key) (named : List ℕ) (w : Write) → IsAskedBy p s q → NamesVersion (history p.cluster) k named q
    → history (step p s).plane.cluster ≡ history p.cluster ++ write w ∷ [] → Replaced (history p.cluster) k named w
replaced_by p (in_cluster (request t)) q k named w asks names adds =
    let law = named_replaced p t q k named asks names in
    by_answer (history p.cluster) (history (step p (in_cluster (request t))).plane.cluster) (accept q (history p.cluster) p.cluster.session.moment) k named w law.1 law.2 adds
replaced_by p (in_cluster (compact r)) q k named w asks names adds = absurd asks
replaced_by p (in_cluster (moves j m)) q k named w asks names adds = absurd asks
replaced_by p (in_cluster restart) q k named w asks names adds = absurd asks
replaced_by p (handle j) q k named w asks names adds = absurd asks
replaced_by p (works n a) q k named w asks names adds =
    let law = replaced p n a q k named asks names in
    by_answer (history p.cluster) (history (step p (works n a)).plane.cluster) (accept q (history p.cluster) p.cluster.session.moment) k named w law.0 law.1 adds
replaced_by p (tick n) q k named w asks names adds = absurd asks

-- ---- each step that was taken

module _ (t : Taken) where
  -- the control plane after one step more
  one : (before : List Step) (s : Step) → plane_after t (before ++ s ∷ []) ≡ (step (plane_after t before) s).plane
  one before s = run_one (opening t) before s

  one_history : (before : List Step) (s : Step) → history (plane_after t (before ++ s ∷ [])).cluster ≡ history (step (plane_after t before) s).plane.cluster
  one_history before s = ap (λ (p : ControlPlane). history p.cluster) (one before s)

  pub replaces : ReplacesNamedVersions t
  replaces =
      record {
        replaces = λ before after s q k named w at asks names adds. replaced_by (plane_after t before) s q k named w asks names (sym (one_history before s) ∙ adds);
      }

  pub forgets : ForgetsNothing t
  forgets = record { kept = λ before after rest k n at among none. nothing_forgotten t.window t.workers t.initial before after k n among none }

  pub rises : RevisionsRise t
  rises =
      record {
        rise = λ before middle after k at none.
            subst (λ (p : ControlPlane). (follower k (plane_after t before).cluster).informer.published.revision ≤ (follower k p.cluster).informer.published.revision)
            (sym (run_append (opening t) before middle)) (revisions_rise t.window t.workers t.initial before middle k none);
      }

  pub takes : TakesTheHeads t
  takes =
      record {
        gives = λ before after w k rest at none synced queued.
            let p = plane_after t before in
            subst (λ (q : ControlPlane). TakesTheHead w k rest p.manager q.manager) (sym (one before (works w action.take))) (takes_give p w k rest none synced queued).0;
        only = λ before after s w u at here.
            let p = plane_after t before in
            subst
            (λ (q : ControlPlane).
            ((v : Turn) × HasInHand w v p × (v.work_key ≡ u.work_key))
            ⊎ (HasNothing w p × (s ≡ works w action.take) × ((rest : List WorkKey) × TakesTheHead w u.work_key rest p.manager q.manager) × (u ≡ begun u.work_key)))
            (sym (one before s)) (only_takes p s w u (subst (HasInHand w u) (one before s) here));
      }

  pub spares : SparesLiveOwners t
  spares =
      record {
        spares = λ before after n a x w at of adds. spared t.window t.workers t.initial before n a x w of (sym (one_history before (works n a)) ∙ adds);
      }

  pub overshoots : NeverOvershoots t
  overshoots = record { few = λ o before after at alone. no_overshoot t.window t.workers t.initial before o alone }
