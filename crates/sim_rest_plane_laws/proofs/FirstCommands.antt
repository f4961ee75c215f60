-- The plan of a last turn was empty, where the first command of a plan owes its key.
use Rattle.std.proofs.Common.{◌≡◌, ◌≤◌, ℕ, List, [], ◌∷◌, ◌++◌, map, drop, length, true, Some, slice_get, refl, sym, ap, ◌∙◌, subst, append_assoc, append-nil, arith}
use Rattle.std.specs.List.{AllByRecursion}
use Rattle.serde_json.specs.Data.{Data}
use Rattle.spec_api.specs.History.{History, present, state, found}
use Rattle.spec_api.specs.Keys.{Key}
use Rattle.spec_api.specs.Reached.{IsReached}
use Rattle.spec_api.specs.Verbs.{accept, with_write}
use Rattle.spec_server.specs.Snapshots.{Snapshot}
use Rattle.spec_client_go.specs.declared.controller.Controller.{Controller}
use Rattle.spec_client_go.specs.Hands.{Read}
use Rattle.spec_client_go.specs.Shifts.{Shift}
use Rattle.spec_client_go.specs.WorkQueues.{WorkKey}
use Rattle.spec_laws.proofs.Runs.{Begins}
use Rattle.spec_sim.specs.declared.initial_syncs.InitialSync.{InitialSync}
use Rattle.spec_sim.specs.Clusters.{history, follower, looks}
use Rattle.spec_sim.specs.ControlPlanes.{ControlPlane, Step, works, opened, run}
use Rattle.spec_sim.specs.Managers as action
use Rattle.spec_sim.specs.Managers.{answer_of, learnt, delivered, requested}
use Rattle.spec_sim.specs.NextSteps as next_step
use Rattle.spec_sim.specs.NextSteps.{next, order, unseen}
use Rattle.spec_sim.specs.Turns.{Turn, Issue, Sight, looked, satisfied, commands, is_accepted}
use Rattle.sim_worker_laws.specs.IssuedLaws.{WasThere, IsSeen, sighting_of, commands_of}
use Rattle.sim_worker_laws.specs.LookLaws.{WasPublishedSince, IsUnderWay}
use Rattle.sim_worker_laws.proofs.Growing.{there_still, present_grows}
use Rattle.sim_worker_laws.proofs.Lists.{all_map}
use Rattle.sim_worker_laws.proofs.LookRuns.{under_way}
use Rattle.sim_worker_laws.proofs.Nexts.{Stands, to_issue, stands}
use Rattle.sim_rest_laws.specs.Rests.{IsAtRest}
use Rattle.sim_rest_laws.specs.ShiftRunLaws.{Lead}
use Rattle.sim_rest_laws.specs.TurnRunLaws.{ShownSince, ThereSince, IssuedSince}
use Rattle.sim_rest_laws.specs.LastTurnLaws.{BeganOnce, IsLastTurn, at_take, since_take}
use Rattle.sim_rest_laws.specs.StillLaws.{OwedNothing, ShownIn}
use Rattle.sim_rest_laws.specs.OwedObjectLaws.{LooksAfter}
use Rattle.sim_rest_laws.specs.WholeLaws.{ReferencesAreTrue}
use Rattle.sim_rest_laws.proofs.ShiftRuns.{run_both}
use Rattle.sim_rest_laws.proofs.Still.{members_are, are_still}
use Rattle.sim_rest_laws.proofs.Whole.{begins_at, at_point, run_begins, server_lists}
use Rattle.sim_rest_command_laws.specs.CommandLaws.{Unowed, WasUnowed}
use Rattle.sim_rest_command_laws.specs.FirstCommandLaws.{PassesBy, FirstCommandsOweOf}
use Rattle.sim_rest_plane_laws.specs.FirstCommandLaws.{LastPlansFollow}
use Rattle.sim_rest_plane_laws.proofs.PlanesPass.{all_reached, show_lists}
use Rattle.sim_rest_plane_laws.proofs.ReadsLead.{Led, read_leads, shows_at, states_passed}
use Rattle.sim_rest_plane_laws.proofs.WritesLead.{wrote, happens, all_true, delivered_is}

module _ (c : Controller) (owe : FirstCommandsOweOf c) (j : WorkKey) (of_controller : j.controller ≡ c) (looks_after : LooksAfter c j.key.kind) (window workers : ℕ) (initial : InitialSync) (before after : List Step) (t' : Turn) (once : BeganOnce (run (opened window workers initial) before) after)
    (rest : IsAtRest (run (run (opened window workers initial) before) after)) (true_references : ReferencesAreTrue (history (run (run (opened window workers initial) before) after).cluster))
    (z : IsLastTurn (run (opened window workers initial) before) after j t')
    (d : Data) (there : state (history (run (run (opened window workers initial) before) after).cluster) (present (history (run (run (opened window workers initial) before) after).cluster)) j.key ≡ Some d) where
  abbrev u : ControlPlane
  u = opened window workers initial

  abbrev p : ControlPlane
  p = run u before

  abbrev q : ControlPlane
  q = at_take p after j t' z

  abbrev since : List Step
  since = since_take p after j t' z

  abbrev h : History
  h = history (run p after).cluster

  abbrev fin : List Step
  fin = works z.worker action.finish ∷ z.after

  module _ (i : Issue) (s : IssuedSince q z.during z.worker j i) (none : s.turn.issues ≡ []) (acc : is_accepted i.answer ≡ true) where
    abbrev turn : Turn
    turn = s.turn

    abbrev point : List Step
    point = s.before

    abbrev g : History
    g = history (run q point).cluster

    abbrev later : List Step
    later = works z.worker (action.issue s.delivery) ∷ (s.after ++ fin)

    parts : since ≡ point ++ later
    parts = ap (λ l. l ++ fin) s.is ∙ append_assoc point (works z.worker (action.issue s.delivery) ∷ s.after) fin

    -- a look before the command
    passes_look : (w : Sight) → IsSeen (ShownSince q point) w → IsSeen (PassesBy h g j (ShownIn q since)) w
    passes_look (looked k m) x = (
      (
        looks (run q x.0).cluster,
        (x.0, x.1 ++ later, parts ∙ ap (λ l. l ++ later) x.2 ∙ append_assoc x.0 x.1 later, refl),
        ap (λ (a : Snapshot). a.members) x.3 ∙ members_are k (run q x.0),
      ),
      λ key same. passed key same,
    )
      where
        whole : since ≡ x.0 ++ (x.1 ++ later)
        whole = parts ∙ ap (λ l. l ++ later) x.2 ∙ append_assoc x.0 x.1 later

        passed : (key : Key) → key.kind ≡ k
            → Unowed j (ShownIn q since) key (found key m.members) (state h (present g) key) × Unowed j (ShownIn q since) key (state h (present g) key) (state h (present h) key)
        passed key same =
            let g0 = history (run q x.0).cluster in
            let up = run_begins (run q x.0) x.1 in
            let on : run (run q x.0) x.1 ≡ run q point = sym (run_both q x.0 x.1) ∙ ap (run q) (sym x.2) in
            let grows : present g0 ≤ present g = omega (arith, present_grows g0 up.0, ap present up.1, ap (λ (a : ControlPlane). present (history a.cluster)) on) in
            let b = begins_at window workers initial before after j t' z point later parts in
            let far : present g ≤ present h = omega (arith, present_grows g b.0, ap present b.1) in
            let low = (shows_at window workers initial before after j t' once rest z x.0 key.kind).1 in
            let all = states_passed window workers initial before after j t' once rest z x.0 (x.1 ++ later) whole key (present g) (omega (arith, low, grows)) far in
            let is : found key (follower key.kind (run q x.0).cluster).informer.published.members ≡ found key m.members =
            ap (λ n. found key (follower n (run q x.0).cluster).informer.published.members) same ∙ ap (λ (a : Snapshot). found key a.members) (sym x.3) in
            ((all.0, subst (λ o. Lead key o all.0 (state h (present g) key)) is all.2, all.4), (all.1, all.3, all.5))
    passes_look (satisfied b) x = tt

    -- a live read before it
    longer : (r : Read) → ThereSince q point r → ThereSince q z.during r
    longer r x = (x.0, x.1 ++ works z.worker (action.issue s.delivery) ∷ s.after, s.is ∙ ap (λ l. l ++ works z.worker (action.issue s.delivery) ∷ s.after) x.2 ∙ append_assoc x.0 x.1 (works z.worker (action.issue s.delivery) ∷ s.after), x.3)

    leads_read : (r : Read) → ThereSince q point r → Led window workers initial before after j t' once rest z r
    leads_read r x = read_leads window workers initial before after j t' once rest z r (longer r x)

    was_there : (r : Read) → ThereSince q point r → WasThere g r
    was_there r x =
        let g0 = history (run q x.0).cluster in
        let on : run (run q x.0) x.1 ≡ run q point = sym (run_both q x.0 x.1) ∙ ap (run q) (sym x.2) in
        there_still g0 g (subst (λ (a : ControlPlane). Begins g0 (history a.cluster)) on (run_begins (run q x.0) x.1)) r (present g0, omega arith, x.3)

    impossible : ⊥
    impossible = by (subst (Stands turn) s.next (stands turn))
      where
        by : Stands turn (next_step.issue i.command) → ⊥
        by (to_issue _ others unseen_none asks_none expects accepted_all left_is) =
            let c = (run q point).cluster in
            let o = accept (requested turn i.command) g c.session.moment in
            let answer : i.answer ≡ learnt s.delivery o = ap (λ (n : Issue). n.answer) s.answer in
            let came : s.delivery ≡ delivered = delivered_is s.delivery o i.answer answer acc in
            let yes : is_accepted (answer_of o) ≡ true = ap is_accepted (sym (answer ∙ ap (λ d. learnt d o) came)) ∙ acc in
            let issue_step = works z.worker (action.issue delivered) in
            let y = s.after ++ fin in
            let e : since ≡ point ++ issue_step ∷ y =
            ap (λ l. l ++ fin) (s.is ∙ ap (λ d. point ++ works z.worker (action.issue d) ∷ s.after) came) ∙ append_assoc point (issue_step ∷ s.after) fin in
            let b = begins_at window workers initial before after j t' z point later parts in
            let reached : IsReached h =
            subst (λ (a : ControlPlane). IsReached (history a.cluster)) (run_both u before after) (all_reached window workers initial (before ++ after)) in
            let still = (are_still window workers initial before [] after j t' once rest z).0 in
            let at = at_point window workers initial before after j t' z point in
            let under : IsUnderWay (WasPublishedSince u (before ++ (z.before ++ works z.worker action.take ∷ point))) (WasThere (history (run u (before ++ (z.before ++ works z.worker action.take ∷ point))).cluster)) turn =
            under_way window workers initial (before ++ (z.before ++ works z.worker action.take ∷ point)) z.worker turn (ap (λ (a : ControlPlane). slice_get a.manager.turns z.worker) (sym at) ∙ s.hand) in
            let seen : map sighting_of turn.sights ≡ order j.controller =
            sym (append-nil (map sighting_of turn.sights)) ∙ ap (λ l. map sighting_of turn.sights ++ l) (sym unseen_none) ∙ under.seen ∙ ap (λ (a : WorkKey). order a.controller) s.key in
            let plan : commands turn ≡ i.command ∷ others = ap (λ (l : List Issue). drop (length l) (commands turn)) (sym none) ∙ left_is in
            owe h g b.0 c.session.moment j turn i.command others d q since b.1 reached true_references (server_lists window workers initial before after j t' z show_lists) still of_controller looks_after s.key there seen
            (all_map (IsSeen (ShownSince q point)) (IsSeen (PassesBy h g j (ShownIn q since))) passes_look turn.sights s.looks)
            (all_map (ThereSince q point) (Led window workers initial before after j t' once rest z) leads_read turn.reads s.reads)
            (all_map (ThereSince q point) (WasThere g) was_there turn.reads s.reads) asks_none plan none yes
            (λ w wrote_it.
            let l = wrote window workers initial before after j t' once rest z point y issue_step w e (happens (run q point) z.worker turn i.command s.hand s.next ∙ ap (with_write g) wrote_it) in
            ((l.0, l.2, l.4), (l.1, l.3, l.5)))

  is_empty : commands t' ≡ []
  is_empty = by t'.issues refl
    where
      by : (is : List Issue) → t'.issues ≡ is → commands t' ≡ []
      by [] e = sym z.issued ∙ ap commands_of e
      by (i ∷ is) e =
          let f = z.since.first i is e in
          let all = subst (AllByRecursion (λ (n : Issue). is_accepted n.answer ≡ true)) e (all_true t'.issues z.accepted) in absurd (impossible i f.0 f.1 all.0)

pub last_plans_follow : LastPlansFollow
last_plans_follow c owe window workers initial before after j t once rest true_references z is looks_after d there =
    is_empty c owe j is looks_after window workers initial before after t once rest true_references z d there
