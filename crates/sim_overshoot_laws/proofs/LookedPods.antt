-- The pods that a turn has looked at stood there at a revision that is published.
use Rattle.std.proofs.Common.{◌≡◌, ◌≤◌, ℕ, List, [], ◌∷◌, filter, Bool, true, false, cond, Some, None, slice_get, refl, sym, ap, ◌∙◌, subst}
use Rattle.std.specs.List.{AllByRecursion}
use Rattle.serde_json.specs.Data.{Data}
use Rattle.spec_api.proofs.PutLaws.{found-after_all, IsAscending-after_all}
use Rattle.spec_api.specs.declared.kinds.Kind.{Kind}
use Rattle.spec_api.specs.declared.kinds.Kind.TheVariants.{ConfigMap, Pod, ReplicaSet, Deployment}
use Rattle.spec_api.specs.History.{History, Entries, up_to, state, entries_at, found, list, unfiltered, in_view}
use Rattle.spec_api.specs.Keys.{Key}
use Rattle.spec_server.specs.Snapshots.{Snapshot}
use Rattle.spec_sim.specs.declared.initial_syncs.InitialSync.{InitialSync}
use Rattle.spec_sim.specs.Clusters.{history, follower}
use Rattle.spec_sim.specs.ControlPlanes.{ControlPlane, Step, opened, run}
use Rattle.spec_sim.specs.Turns.{Turn, Sight, looked, satisfied, shown, hand, is_pod}
use Rattle.sim_worker_laws.specs.IssuedLaws.{IsSeen}
use Rattle.sim_worker_laws.specs.LookLaws.{WasPublishedSince}
use Rattle.sim_worker_laws.proofs.Lists.{all_map}
use Rattle.sim_worker_laws.proofs.LookRuns.{under_way}
use Rattle.sim_control_plane_laws.proofs.PlaneRuns.{look_listed, run_append}
use Rattle.sim_control_plane_laws.proofs.Rising.{revisions_rise}
use Rattle.sim_overshoot_laws.proofs.KeptPods.{in_pods}
use Rattle.sim_overshoot_laws.proofs.Relists.{all_found}

-- ---- a list of pods

-- a pod that stood there at a revision up to this one
abbrev pub IsStanding : History → ℕ → Key × Data → Type 0
IsStanding h at e = (e.0.kind ≡ Pod) × (q : ℕ) × (q ≤ at) × (state h q e.0 ≡ Some e.1)

pub is_kind : (k : Kind) → is_pod k ≡ true → k ≡ Pod
is_kind ConfigMap e = cc
is_kind Pod e = refl
is_kind ReplicaSet e = cc
is_kind Deployment e = cc

module _ (h : History) (q at : ℕ) (low : q ≤ at) where
  abbrev Stood : Key × Data → Type 0
  Stood e = state h q e.0 ≡ Some e.1

  abbrev pods_of : Entries → Entries
  pods_of es = filter (λ m. in_view (unfiltered Pod None) m.0 m.1) es

  all_standing : (es : Entries) → AllByRecursion Stood es → AllByRecursion (IsStanding h at) (filter (λ m. in_view (unfiltered Pod None) m.0 m.1) es)
  all_standing [] a = tt
  all_standing (e ∷ es) a = by (in_view (unfiltered Pod None) e.0 e.1) refl (all_standing es a.1)
    where
      by : (b : Bool) → in_view (unfiltered Pod None) e.0 e.1 ≡ b → AllByRecursion (IsStanding h at) (pods_of es) → AllByRecursion (IsStanding h at) (cond b (e ∷ pods_of es) (pods_of es))
      by true is rest = ((is_kind e.0.kind (sym (in_pods e.0 e.1) ∙ is), q, low, a.0), rest)
      by false is rest = rest

  found_stood : (e : Key × Data) → found e.0 (entries_at h q) ≡ Some e.1 → Stood e
  found_stood e is = sym (found-after_all e.0 [] (up_to q h) tt) ∙ is

  pub list_standing : AllByRecursion (IsStanding h at) (list h (unfiltered Pod None) q)
  list_standing =
      all_standing (entries_at h q)
      (all_map (λ (e : Key × Data). found e.0 (entries_at h q) ≡ Some e.1) Stood found_stood (entries_at h q) (all_found (entries_at h q) (IsAscending-after_all [] (up_to q h) tt)))

-- ---- the looks of a turn

module _ (h : History) (published : Kind → ℕ) where
  abbrev pub IsPublished : Kind → Snapshot → Type 0
  IsPublished k s = (s.members ≡ list h (unfiltered k None) s.revision) × (s.revision ≤ published k)

  shown_standing : (ss : List Sight) → AllByRecursion (IsSeen IsPublished) ss → AllByRecursion (IsStanding h (published Pod)) (shown Pod ss)
  shown_standing [] a = tt
  shown_standing (satisfied b ∷ ss) a = shown_standing ss a.1
  shown_standing (looked ConfigMap s ∷ ss) a = shown_standing ss a.1
  shown_standing (looked Pod s ∷ ss) a = subst (AllByRecursion (IsStanding h (published Pod))) (sym a.0.0) (list_standing h s.revision (published Pod) a.0.1)
  shown_standing (looked ReplicaSet s ∷ ss) a = shown_standing ss a.1
  shown_standing (looked Deployment s ∷ ss) a = shown_standing ss a.1

module _ (window workers : ℕ) (initial : InitialSync) (steps : List Step) where
  abbrev v : ControlPlane
  v = opened window workers initial

  abbrev p : ControlPlane
  p = run v steps

  abbrev revision_of : Kind → ℕ
  revision_of k = (follower k p.cluster).informer.published.revision

  look_published : (k : Kind) (s : Snapshot) → WasPublishedSince v steps k s → IsPublished (history p.cluster) revision_of k s
  look_published k s x =
      let f = follower k (run v x.0).cluster in
      let rises : f.informer.published.revision ≤ (follower k (run (run v x.0) x.1).cluster).informer.published.revision = revisions_rise window workers initial x.0 x.1 k x.3 in
      let all : run (run v x.0) x.1 ≡ p = sym (ap (run v) x.2 ∙ run_append v x.0 x.1) in (
        (look_listed window workers initial steps k s (x.0, x.1, x.2, x.4)).0,
        subst (λ (z : Snapshot). z.revision ≤ revision_of k) (sym x.4.0) (subst (λ (z : ControlPlane). f.informer.published.revision ≤ (follower k z.cluster).informer.published.revision) all rises),
      )

  seen_published : (s : Sight) → IsSeen (WasPublishedSince v steps) s → IsSeen (IsPublished (history p.cluster) revision_of) s
  seen_published (looked k s) x = look_published k s x
  seen_published (satisfied b) x = tt

  pub looked_standing : (w : ℕ) (t : Turn) → slice_get p.manager.turns w ≡ Some (Some t) → AllByRecursion (IsStanding (history p.cluster) p.cluster.pods.informer.published.revision) (hand t).looks.pods
  looked_standing w t here =
      shown_standing (history p.cluster) revision_of t.sights
      (all_map (IsSeen (WasPublishedSince v steps)) (IsSeen (IsPublished (history p.cluster) revision_of)) seen_published t.sights (under_way window workers initial steps w t here).looks)
