-- The whole follows from the laws of runs and what is left.
use Rattle.std.proofs.Common.{◌≡◌, ◌≤◌, ℕ, List, [], ◌∷◌, ◌++◌, refl, sym, ap, ◌∙◌, subst, append_assoc, arith}
use Rattle.spec_api.specs.declared.kinds.Kind.{Kind}
use Rattle.spec_api.specs.History.{History, present, list, viewed}
use Rattle.spec_api.specs.Reached.{IsReached}
use Rattle.spec_client_go.specs.Hands.{Read}
use Rattle.spec_client_go.specs.WorkQueues.{WorkKey}
use Rattle.spec_laws.specs.SentLaws.{whole}
use Rattle.spec_laws.proofs.Past.{past}
use Rattle.spec_laws.proofs.Runs.{Begins, nothing}
use Rattle.spec_sim.specs.declared.initial_syncs.InitialSync.{InitialSync}
use Rattle.spec_sim.specs.Clusters.{history, follower, looks}
use Rattle.spec_sim.specs.ControlPlanes.{ControlPlane, Step, works, opened, step, run}
use Rattle.spec_sim.specs.Managers as action
use Rattle.spec_sim.specs.Turns.{Turn}
use Rattle.sim_worker_laws.specs.IssuedLaws.{WasThere}
use Rattle.sim_worker_laws.proofs.Growing.{step_begins, present_grows, there_still}
use Rattle.sim_worker_laws.proofs.Lists.{all_map}
use Rattle.sim_rest_laws.specs.TurnRunLaws.{ThereSince}
use Rattle.sim_rest_laws.specs.LastTurnLaws.{IsLastTurn, at_take, since_take}
use Rattle.sim_rest_laws.specs.StillLaws.{of_kind, ShownIn}
use Rattle.sim_rest_laws.specs.WholeLaws.{RunsShowLists, AreServerLists, ItFollows}
use Rattle.sim_rest_laws.proofs.OwedObjects.{had_turns}
use Rattle.sim_rest_laws.proofs.ShiftRuns.{run_both}
use Rattle.sim_rest_laws.proofs.Still.{members_are, are_still}
use Rattle.sim_rest_laws.proofs.YesRuns.{answers_yes}

onward : (h middle last : History) → Begins h middle → Begins middle last → Begins h last
onward h middle last a b = (a.0 ++ b.0, b.1 ∙ ap (λ x. x ++ b.0) a.1 ∙ append_assoc h a.0 b.0)

pub run_begins : (p : ControlPlane) (ss : List Step) → Begins (history p.cluster) (history (run p ss).cluster)
run_begins p [] = ([], nothing (history p.cluster))
run_begins p (s ∷ ss) = onward (history p.cluster) (history (step p s).plane.cluster) (history (run (step p s).plane ss).cluster) (step_begins p s) (run_begins (step p s).plane ss)

-- a list stays what it was
pub list_stays : (h later : History) (k : Kind) (r : ℕ) → Begins h later → r ≤ present h → (list later (whole k) r ≡ list h (whole k) r) × (r ≤ present later)
list_stays h later k r b low =
    (ap (λ g. list g (whole k) r) b.1 ∙ ap (viewed (whole k)) (past h b.0 r low), omega (arith, low, present_grows h b.0, ap present b.1))

module _ (window workers : ℕ) (initial : InitialSync) (before after : List Step) (j : WorkKey) (t : Turn) (z : IsLastTurn (run (opened window workers initial) before) after j t) where
  abbrev v : ControlPlane
  v = opened window workers initial

  abbrev p : ControlPlane
  p = run v before

  abbrev q : ControlPlane
  q = at_take p after j t z

  abbrev h : History
  h = history (run p after).cluster

  pub at_point : (x : List Step) → run q x ≡ run v (before ++ (z.before ++ works z.worker action.take ∷ x))
  at_point x = sym (run_both v before (z.before ++ works z.worker action.take ∷ x) ∙ run_both p z.before (works z.worker action.take ∷ x))

  pub begins_at : (x y : List Step) → since_take p after j t z ≡ x ++ y → Begins (history (run q x).cluster) h
  begins_at x y e =
      let end : run (run q x) y ≡ run p after =
      sym (ap (run p) z.is ∙ run_both p z.before (works z.worker action.take ∷ since_take p after j t z) ∙ ap (run q) e ∙ run_both q x y) in
      subst (λ (a : ControlPlane). Begins (history (run q x).cluster) (history a.cluster)) end (run_begins (run q x) y)

  pub server_lists : RunsShowLists → AreServerLists h (ShownIn q (since_take p after j t z))
  server_lists show l shown k =
      let x = shown.0 in
      let steps = before ++ (z.before ++ works z.worker action.take ∷ x) in
      let here = show window workers initial steps k in
      let c = (run v steps).cluster in
      let r = (follower k c).informer.published.revision in
      let b : Begins (history c) h = subst (λ (a : ControlPlane). Begins (history a.cluster) h) (at_point x) (begins_at x shown.1 shown.2) in
      let stays = list_stays (history c) h k r b here.1 in
      (r, stays.1, ap (of_kind k) (shown.3 ∙ ap (λ (a : ControlPlane). looks a.cluster) (at_point x)) ∙ sym (members_are k (run v steps)) ∙ here.0 ∙ sym stays.0)

  were_there : (r : Read) → ThereSince q z.during r → WasThere h r
  were_there r there =
      let x = there.0 in
      let g = history (run q x).cluster in
      there_still g h (begins_at x (there.1 ++ works z.worker action.finish ∷ z.after) (ap (λ l. l ++ works z.worker action.finish ∷ z.after) there.2 ∙ append_assoc x there.1 (works z.worker action.finish ∷ z.after))) r
      (present g, omega arith, there.3)

pub follows : ItFollows
follows reached show reads_lead stay c plans_empty window workers initial before after x d reads once rest true_references looks_after is may read_now asked =
    let p = run (opened window workers initial) before in
    let q = run p after in
    let j : WorkKey = record { controller = c; key = x } in
    let all_reached = subst (λ (z : ControlPlane). IsReached (history z.cluster)) (run_both (opened window workers initial) before after) (reached window workers initial (before ++ after)) in
    let had = had_turns window workers initial before after c x d once rest all_reached looks_after is in
    let t = had.0 in
    let z = had.1 in
    let still = are_still window workers initial before [] after j t once rest z in
    stay (history q.cluster) j t d (at_take p after j t z) (since_take p after j t z) reads all_reached true_references (server_lists window workers initial before after j t z show) still.0 z.since.key is may
    z.seen still.1 (reads_lead window workers initial before after j t once rest z)
    (all_map (ThereSince (at_take p after j t z) z.during) (WasThere (history q.cluster)) (were_there window workers initial before after j t z) t.reads z.since.reads)
    (answers_yes window workers initial before after j t once rest z) z.read (plans_empty window workers initial before after j t once rest true_references z refl looks_after d is) read_now asked
