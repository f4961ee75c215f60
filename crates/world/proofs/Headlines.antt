-- What holds of every world.
use Rattle.std.proofs.Common.{◌≡◌, ◌≤◌, ◌+◌, ◌-◌, sym, subst, List, [], take, length, None, Some, Result, Ok, Err, OnOk, OnErr, IfErr, map, ◌<◌, slice_get}
use Rattle.std.specs.List.{AllByRecursion}
use Rattle.spec_api.specs.declared.kinds.Kind.{Kind}
use Rattle.spec_server.specs.Snapshots.{Snapshot}
use Rattle.spec_client_go.specs.Commands.{Command}
use Rattle.spec_client_go.specs.Hands.{Read}
use Rattle.spec_sim.specs.Clusters as clusters
use Rattle.spec_sim.specs.ControlPlanes.{Step}
use Rattle.spec_sim.specs.Managers.{Manager, Issued}
use Rattle.spec_sim.specs.Turns.{Turn, Sight, looked, satisfied}
use Rattle.sim_worker_laws.specs.IssuedLaws.{IsNext, IsSeen, WasPublished, WasThere}
use Rattle.sim_worker_laws.specs.LookLaws.{WasIssued}
use Rattle.sim_worker_laws.specs.TurnLaws.{AreApart}
use Rattle.sim_worker_laws.proofs.HandRuns.{apart}
use Rattle.sim_worker_laws.proofs.IssuedRuns.{issued_next}
use Rattle.sim_worker_laws.proofs.Lists.{all_map}
use Rattle.sim_worker_laws.proofs.LookRuns.{under_way, were_issued}
use Rattle.sim_control_plane_laws.specs.PlaneLaws.{IsServerList}
use Rattle.sim_control_plane_laws.proofs.PlaneRuns.{followed, look_listed}
use Rattle.sim_steps.specs.PlaneSteps.{plane_step_of}
use Rattle.sim_steps.specs.declared.plane_steps.PlaneStep.{PlaneStep}
use Rattle.world.specs.Taken.{opening, plane, followed_by_all}
use Rattle.sim_cluster.specs.Standing as stored
use Rattle.sim_cluster.specs.declared.stopped.Stopped.{Stopped}
use Rattle.sim_cluster.proofs.Headlines.{shown}
use Rattle.world.proofs.AtRest.{rests}
use Rattle.world.proofs.PlaneHeadlines.{replaces, forgets, rises, takes, spares, overshoots}
use Rattle.world.proofs.Stood.{stood, run_stood, run_traced}
use Rattle.world.specs.Headline.{Headline, TurnsAreUnderWay}
use Rattle.world.specs.Standing.{StandsFor, Stands}
use Rattle.world.specs.WorldStates.{WorldState, step, run}

-- ---- commands

module _ (P P' : Kind → Snapshot → Type 0) (Q Q' : Read → Type 0) (looks : (k : Kind) (s : Snapshot) → P k s → P' k s) (reads : (r : Read) → Q r → Q' r) where
  seen_so : (s : Sight) → IsSeen P s → IsSeen P' s
  seen_so (looked k s) is = looks k s is
  seen_so (satisfied b) is = tt

  pub next_so : (t : Turn) (c : Command) → IsNext P Q t c → IsNext P' Q' t c
  next_so t c n =
      record {
        seen = n.seen;
        looks = all_map (IsSeen P) (IsSeen P') seen_so t.sights n.looks;
        reads = all_map Q Q' reads t.reads n.reads;
        read = n.read;
        expects = n.expects;
        accepted = n.accepted;
        next = n.next;
      }

-- ---- every world

cluster_stands : (w : WorldState) → Stands w → stored.Stands w.stored.cluster
unfolding Stands stored.Stands
cluster_stands w is = ((plane w.trace).cluster, is.cluster, followed w.trace.window w.trace.workers w.trace.initial w.trace.steps)

plane_stands : (w : WorldState) → Stands w → StandsFor w (plane w.trace)
unfolding Stands
plane_stands w is = is

apart_in : (w : WorldState) → Stands w → AreApart w.stored.manager.turns
unfolding Stands
apart_in w is = subst (λ (m : Manager). AreApart m.turns) (sym is.manager) (apart w.trace.window w.trace.workers w.trace.initial w.trace.steps)

issued_in : (w : WorldState) → Stands w → AllByRecursion (WasIssued (opening w.trace) w.trace.steps) w.stored.manager.issued
unfolding Stands
issued_in w is =
    subst (λ (m : Manager). AllByRecursion (WasIssued (opening w.trace) w.trace.steps) m.issued) (sym is.manager) (were_issued w.trace.window w.trace.workers w.trace.initial w.trace.steps)

turns_in : (w : WorldState) → Stands w → TurnsAreUnderWay w.trace (λ n u. slice_get w.stored.manager.turns n ≡ Some (Some u))
unfolding Stands
turns_in w is =
    record {
      under_way = λ n u here.
          under_way w.trace.window w.trace.workers w.trace.initial w.trace.steps n u (subst (λ (m : Manager). slice_get m.turns n ≡ Some (Some u)) is.manager here);
    }

looks_in : (w : WorldState) → Stands w
    → AllByRecursion (λ (i : Issued). IsNext (IsServerList w.stored.cluster.journal) (WasThere w.stored.cluster.journal) i.turn i.command) w.stored.manager.issued
unfolding Stands
looks_in w is =
    let t = w.trace in
    let o = opening t in
    let p = plane t in
    let h = clusters.history p.cluster in
    let j = w.stored.cluster.journal in
    let same : h ≡ j = sym is.cluster.journal in
    let looks : (k : Kind) (s : Snapshot) → WasPublished o t.steps k s → IsServerList j k s = λ k s x. subst (λ g. IsServerList g k s) same (look_listed t.window t.workers t.initial t.steps k s x) in
    let reads : (r : Read) → WasThere h r → WasThere j r = λ r x. subst (λ g. WasThere g r) same x in
    subst (λ (m : Manager). AllByRecursion (λ (i : Issued). IsNext (IsServerList j) (WasThere j) i.turn i.command) m.issued) (sym is.manager)
    (all_map (λ (i : Issued). IsNext (WasPublished o t.steps) (WasThere h) i.turn i.command) (λ (i : Issued). IsNext (IsServerList j) (WasThere j) i.turn i.command)
    (λ i n. next_so (WasPublished o t.steps) (IsServerList j) (WasThere h) (WasThere j) looks reads i.turn i.command n) p.manager.issued (issued_next t.window t.workers t.initial t.steps))

pub headline : (w : WorldState) → Stands w → Headline w
headline w is =
    record {
      stands = plane_stands w is;
      happened = (plane_stands w is).cluster.journal;
      lists = shown w.stored.cluster (cluster_stands w is);
      hands = apart_in w is;
      issued = issued_in w is;
      turns = turns_in w is;
      looks = looks_in w is;
      replaces = replaces w.trace;
      owed = forgets w.trace;
      rise = rises w.trace;
      takes = takes w.trace;
      spares = spares w.trace;
      few = overshoots w.trace;
      rests = rests w.trace;
    }

-- ---- after a step that was taken, or changed nothing

pub headline_after : {X E : Type 0} (w v : WorldState) (s : Step) (r : Result X E) → Stands w → OnOk r (v ≡ (step w s).world) → OnErr r (v ≡ w) → Headline v
headline_after w v s (Ok x) is moved stays = subst Headline (sym moved) (headline (step w s).world (stood w s is))
headline_after w v s (Err e) is moved stays = subst Headline (sym stays) (headline w is)

-- ---- after all steps of a slice, or as many as were taken

pub headline_run : {X : Type 0} (w v : WorldState) (ss : List PlaneStep) (r : Result X Stopped) → Stands w → OnOk r (v ≡ run w (map plane_step_of ss))
    → IfErr r (λ s. (s.taken < length ss) × (v ≡ run w (map plane_step_of (take s.taken ss)))) → Headline v
headline_run w v ss (Ok x) is ran stopped = subst Headline (sym ran) (headline (run w (map plane_step_of ss)) (run_stood w (map plane_step_of ss) is))
headline_run w v ss (Err e) is ran stopped =
    subst Headline (sym stopped.1) (headline (run w (map plane_step_of (take e.taken ss))) (run_stood w (map plane_step_of (take e.taken ss)) is))

pub traced_ok : {X : Type 0} (w v : WorldState) (ss : List PlaneStep) (r : Result X Stopped) → OnOk r (v ≡ run w (map plane_step_of ss))
    → OnOk r (v.trace ≡ followed_by_all w.trace (map plane_step_of ss))
traced_ok w v ss (Ok x) ran = subst (λ (u : WorldState). u.trace ≡ followed_by_all w.trace (map plane_step_of ss)) (sym ran) (run_traced w (map plane_step_of ss))
traced_ok w v ss (Err e) ran = tt

pub traced_stopped : {X : Type 0} (w v : WorldState) (ss : List PlaneStep) (r : Result X Stopped)
    → IfErr r (λ s. (s.taken < length ss) × (v ≡ run w (map plane_step_of (take s.taken ss)))) → IfErr r (λ s. v.trace ≡ followed_by_all w.trace (map plane_step_of (take s.taken ss)))
traced_stopped w v ss (Ok x) stopped = tt
traced_stopped w v ss (Err e) stopped =
    subst (λ (u : WorldState). u.trace ≡ followed_by_all w.trace (map plane_step_of (take e.taken ss))) (sym stopped.1) (run_traced w (map plane_step_of (take e.taken ss)))
