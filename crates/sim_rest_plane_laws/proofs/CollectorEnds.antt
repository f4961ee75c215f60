-- The plan of a last turn of the collector was empty, where an object is there under its key.
use Rattle.std.proofs.Common.{◌≡◌, ℕ, List, [], ◌∷◌, ◌++◌, true, false, Option, Some, refl, sym, ap, ◌∙◌, subst, append_assoc}
use Rattle.std.specs.List.{AllByRecursion}
use Rattle.serde_json.specs.Data.{Data}
use Rattle.spec_api.specs.declared.policies.Policy.{Policy}
use Rattle.spec_api.specs.DeleteOptions.{Options}
use Rattle.spec_api.specs.History.{History, Entry, present, state}
use Rattle.spec_api.specs.Metadata.{uid, is_being_deleted}
use Rattle.spec_api.specs.Reached.{IsReached}
use Rattle.spec_api.specs.Verbs.{accept, with_write}
use Rattle.spec_server.specs.Snapshots.{Snapshot}
use Rattle.spec_client_go.specs.declared.controller.Controller.TheVariants as controller
use Rattle.spec_client_go.specs.Commands.{Command, delete, answered, version_named, request_of}
use Rattle.spec_client_go.specs.WorkQueues.{WorkKey}
use Rattle.spec_sim.specs.declared.initial_syncs.InitialSync.{InitialSync}
use Rattle.spec_sim.specs.Clusters.{history, looks}
use Rattle.spec_sim.specs.ControlPlanes.{ControlPlane, Step, works, opened, run}
use Rattle.spec_sim.specs.Managers as action
use Rattle.spec_sim.specs.Managers.{answer_of, learnt, delivered, requested}
use Rattle.spec_sim.specs.Turns.{Turn, Issue, Sight, looked, satisfied, commands, is_accepted, version_answered}
use Rattle.sim_worker_laws.specs.IssuedLaws.{IsSeen, commands_of}
use Rattle.sim_worker_laws.proofs.Lists.{all_map}
use Rattle.sim_rest_laws.specs.Rests.{IsAtRest}
use Rattle.sim_rest_laws.specs.TurnRunLaws.{ShownSince, ThereSince, IssuedSince}
use Rattle.sim_rest_laws.specs.LastTurnLaws.{BeganOnce, IsLastTurn, at_take, since_take}
use Rattle.sim_rest_laws.specs.StillLaws.{IsLookOf, ShownIn}
use Rattle.sim_rest_laws.specs.WholeLaws.{LastPlansAreEmptyOf, ReferencesAreTrue}
use Rattle.sim_rest_laws.proofs.ShiftRuns.{run_both}
use Rattle.sim_rest_laws.proofs.Still.{members_are}
use Rattle.sim_rest_laws.proofs.Whole.{begins_at, server_lists}
use Rattle.sim_rest_command_laws.specs.CommandLaws.{WasUnowed, IsCut}
use Rattle.sim_rest_command_laws.proofs.Collecting.{collectors_first}
use Rattle.sim_rest_command_laws.proofs.Deleting.{collectors_delete}
use Rattle.sim_rest_plane_laws.proofs.PlanesPass.{all_reached, show_lists}
use Rattle.sim_rest_plane_laws.proofs.ReadsLead.{Led, read_leads}
use Rattle.sim_rest_plane_laws.proofs.WritesLead.{wrote, happens, all_true, delivered_is}

module _ (window workers : ℕ) (initial : InitialSync) (before after : List Step) (j : WorkKey) (t' : Turn) (d : Data) (once : BeganOnce (run (opened window workers initial) before) after)
    (rest : IsAtRest (run (run (opened window workers initial) before) after)) (true_references : ReferencesAreTrue (history (run (run (opened window workers initial) before) after).cluster))
    (z : IsLastTurn (run (opened window workers initial) before) after j t') (of_collector : j.controller ≡ controller.Collector)
    (at : state (history (run (run (opened window workers initial) before) after).cluster) (present (history (run (run (opened window workers initial) before) after).cluster)) j.key ≡ Some d) where
  abbrev u : ControlPlane
  u = opened window workers initial

  abbrev p : ControlPlane
  p = run u before

  abbrev q : ControlPlane
  q = at_take p after j t' z

  abbrev since : List Step
  since = since_take p after j t' z

  abbrev h : History
  h = history (run p after).cluster

  abbrev fin : List Step
  fin = works z.worker action.finish ∷ z.after

  reached : IsReached h
  reached = subst (λ (a : ControlPlane). IsReached (history a.cluster)) (run_both u before after) (all_reached window workers initial (before ++ after))

  -- all that was looked at in the turn
  is_look : (w : Sight) → IsSeen (ShownSince q z.during) w → IsSeen (IsLookOf (ShownIn q since)) w
  is_look (looked k m) x = (
    looks (run q x.0).cluster,
    (x.0, x.1 ++ fin, ap (λ l. l ++ fin) x.2 ∙ append_assoc x.0 x.1 fin, refl),
    ap (λ (a : Snapshot). a.members) x.3 ∙ members_are k (run q x.0),
  )
  is_look (satisfied b) x = tt

  -- a command of it
  module _ (i : Issue) (s : IssuedSince q z.during z.worker j i) (acc : is_accepted i.answer ≡ true) where
    abbrev g : History
    g = history (run q s.before).cluster

    abbrev moment : List ℕ
    moment = (run q s.before).cluster.session.moment

    abbrev later : List Step
    later = works z.worker (action.issue s.delivery) ∷ (s.after ++ fin)

    parts : since ≡ s.before ++ later
    parts = ap (λ l. l ++ fin) s.is ∙ append_assoc s.before (works z.worker (action.issue s.delivery) ∷ s.after) fin

    begins : (more : List Entry) × (h ≡ g ++ more)
    begins = let b = begins_at window workers initial before after j t' z s.before later parts in (b.0, b.1)

    was_accepted : is_accepted (answer_of (accept (requested s.turn i.command) g moment)) ≡ true
    was_accepted =
        let o = accept (requested s.turn i.command) g moment in
        let answer : i.answer ≡ learnt s.delivery o = ap (λ (n : Issue). n.answer) s.answer in
        let came : s.delivery ≡ delivered = delivered_is s.delivery o i.answer answer acc in ap is_accepted (sym (answer ∙ ap (λ d. learnt d o) came)) ∙ acc

    unowed : WasUnowed j (ShownIn q since) h g (accept (requested s.turn i.command) g moment)
    unowed w e =
        let o = accept (requested s.turn i.command) g moment in
        let answer : i.answer ≡ learnt s.delivery o = ap (λ (n : Issue). n.answer) s.answer in
        let came : s.delivery ≡ delivered = delivered_is s.delivery o i.answer answer acc in
        let issue_step = works z.worker (action.issue delivered) in
        let y = s.after ++ fin in
        let split : since ≡ s.before ++ issue_step ∷ y =
        ap (λ l. l ++ fin) (s.is ∙ ap (λ d. s.before ++ works z.worker (action.issue d) ∷ s.after) came) ∙ append_assoc s.before (issue_step ∷ s.after) fin in
        let l = wrote window workers initial before after j t' once rest z s.before y issue_step w split (happens (run q s.before) z.worker s.turn i.command s.hand s.next ∙ ap (with_write g) e) in
        ((l.0, l.2, l.4), (l.1, l.3, l.5))

    -- a delete of the object
    no_delete : (p : Option Policy) → i.command ≡ delete j.key (uid d) (Some answered) p → is_being_deleted d ≡ false → ⊥
    no_delete p is live =
        let b = version_answered s.turn.issues in
        let o : Options = record { uid = uid d; version = version_named b (Some answered); policy = p } in
        collectors_delete h g begins.0 moment j o d q since begins.1 reached of_collector at live refl (subst (λ (c : Command). is_accepted (answer_of (accept (request_of b c) g moment)) ≡ true) is was_accepted)
        (subst (λ (c : Command). WasUnowed j (ShownIn q since) h g (accept (request_of b c) g moment)) is unowed)

    -- the first one
    first_cut : (is : List Issue) → commands t' ≡ i.command ∷ commands_of is → IsCut j.key d i.command (commands_of is)
    first_cut is plan =
        (collectors_first h g begins.0 moment (version_answered s.turn.issues) j t' i.command (commands_of is) d q since begins.1 reached true_references
        (server_lists window workers initial before after j t' z show_lists) z.since.key of_collector at (all_map (IsSeen (ShownSince q z.during)) (IsSeen (IsLookOf (ShownIn q since))) is_look t'.sights z.since.looks)
        (all_map (ThereSince q z.during) (Led window workers initial before after j t' once rest z) (read_leads window workers initial before after j t' once rest z) t'.reads z.since.reads)
        plan was_accepted unowed).1

  is_empty : commands t' ≡ []
  is_empty = by t'.issues refl
    where
      by_two : (i : Issue) (is : List Issue) → AllByRecursion (IssuedSince q z.during z.worker j) (i ∷ is) → AllByRecursion (λ (n : Issue). is_accepted n.answer ≡ true) (i ∷ is) → IsCut j.key d i.command (commands_of is) → ⊥
      by_two i [] ss accs c = let none = c.3 in nothing none
        where
          nothing : {x : Command} {xs : List Command} → [] ≡ x ∷ xs → ⊥
          nothing e = cc
      by_two i (n ∷ ns) ss accs c = let is : n.command ≡ delete j.key (uid d) (Some answered) c.1 = cc in no_delete n ss.1.0 accs.1.0 c.1 is c.4

      by : (is : List Issue) → t'.issues ≡ is → commands t' ≡ []
      by [] e = sym z.issued ∙ ap commands_of e
      by (i ∷ is) e =
          let ss = subst (AllByRecursion (IssuedSince q z.during z.worker j)) e z.since.issued in
          let accs = subst (AllByRecursion (λ (n : Issue). is_accepted n.answer ≡ true)) e (all_true t'.issues z.accepted) in
          absurd (by_two i is ss accs (first_cut i ss.0 accs.0 is (sym z.issued ∙ ap commands_of e)))

pub collectors_ends : LastPlansAreEmptyOf controller.Collector
collectors_ends window workers initial before after j t once rest true_references z of_collector looks_after d at = is_empty window workers initial before after j t d once rest true_references z of_collector at
