-- What a worker's actions do, and what they do not.
use Rattle.std.specs.Prelude.{◌≡◌, ◌⊎◌, ◌+◌, ◌-◌, ℕ, List, [], ◌∷◌, ◌++◌, length, filter, min, true, false, Some, None, option_and_then, slice_get, slice_set}
use Rattle.std.specs.FinMap as map
use Rattle.spec_api.specs.History.{present, state}
use Rattle.spec_api.specs.Keys.{Key}
use Rattle.spec_api.specs.Metadata.{version}
use Rattle.spec_api.specs.ObjectRequests.{Request}
use Rattle.spec_api.specs.Verbs.{Outcome}
use Rattle.spec_client_go.specs.Commands.{Command}
use Rattle.spec_client_go.specs.Delays.{delay_after, earlier, failures}
use Rattle.spec_client_go.specs.Expectations.{Owner}
use Rattle.spec_client_go.specs.Boards.{Board, is_satisfied, forgotten}
use Rattle.spec_laws.specs.ExpectationLaws.{creations_left}
use Rattle.spec_sim.specs.Clusters.{Cluster, history}
use Rattle.spec_sim.specs.ControlPlanes.{client}
use Rattle.spec_sim.specs.Managers.{Client, Manager, Issued, Action, ask_satisfied, read_live, issue, Delivery, delivered, answer_lost, dropped, act, answer_of, learnt, reaching, requested, ended}
use Rattle.spec_sim.specs.NextSteps as next_step
use Rattle.spec_sim.specs.NextSteps.{next}
use Rattle.spec_sim.specs.Outcomes as outcome
use Rattle.spec_sim.specs.Turns.{Turn, refused, lost, with_read, with_issue, commands, all_accepted, owner, creates_pod, undone}

-- a worker is in a turn, and this is the next step of it
abbrev pub IsAt : ℕ → Turn → next_step.NextStep → Manager → Type 0
IsAt w t n m = (slice_get m.turns w ≡ Some (Some t)) × (next t ≡ n)

-- ---- commands

-- a command with its answer, as it comes through, in the turn in which it was issued
abbrev pub member : Client → Turn → Command → Delivery → Issued
member c t x d = record { turn = t; command = x; answer = learnt d (c.answer (requested t x)) }

-- a command that is issued is added with its answer to all that were issued; the server is asked its request, where it comes through; and
-- its answer is told
abbrev pub IssuesAreTied : Type 0
IssuesAreTied =
    (c : Client) (w : ℕ) (t : Turn) (x : Command) (d : Delivery) (m : Manager) → IsAt w t (next_step.issue x) m
    → (let r = act c w (issue d) m in
    let i = member c t x d in
    (r.manager.issued ≡ m.issued ++ i ∷ []) × (r.manager.turns ≡ slice_set m.turns w (Some (with_issue (record { command = x; answer = i.answer }) t)))
    × (r.manager.board ≡ m.board) × (r.request ≡ reaching d (requested t x)) × (r.outcome ≡ outcome.issued w x i.answer))

-- nothing else is added, and nothing else is asked of the server
abbrev pub OnlyIssuesAsk : Type 0
OnlyIssuesAsk =
    (c : Client) (w : ℕ) (a : Action) (m : Manager)
    → (let r = act c w a m in
    ((r.manager.issued ≡ m.issued) × (r.request ≡ None))
    ⊎ ((t : Turn) × (x : Command) × (d : Delivery) × IsAt w t (next_step.issue x) m × (r.manager.issued ≡ m.issued ++ member c t x d ∷ []) × (r.request ≡ reaching d (requested t x))))

-- a command whose answer is lost is served, and one that is dropped is not; of either the worker learns nothing
pub record LostIsNotDropped : Type 0 where
  pub is_delivered : (q : Request) (o : Outcome) → (reaching delivered q ≡ Some q) × (learnt delivered o ≡ answer_of o)
  pub is_served : (q : Request) (o : Outcome) → (reaching answer_lost q ≡ Some q) × (learnt answer_lost o ≡ lost)
  pub is_not_served : (q : Request) (o : Outcome) → (reaching dropped q ≡ None) × (learnt dropped o ≡ lost)

-- ---- what is seen

-- a live read finds what is there at the present revision
abbrev pub LiveReadsFindWhatIsThere : Type 0
LiveReadsFindWhatIsThere =
    (c : Cluster) (w : ℕ) (t : Turn) (k : Key) (m : Manager) → IsAt w t (next_step.read k) m
    → (let found = state (history c) (present (history c)) k in
    let r = act (client c) w read_live m in
    (r.manager.turns ≡ slice_set m.turns w (Some (with_read (record { key = k; found = found }) t))) × (r.outcome ≡ outcome.read w k (option_and_then version found)))

-- whether all pods that were expected have been seen is answered by the board; of a set that is not there all is forgotten
pub record AnswersAreTheBoards : Type 0 where
  pub of_a_set : (c : Client) (w : ℕ) (t : Turn) (o : Owner) (m : Manager) → IsAt w t next_step.ask_satisfied m → owner t ≡ Some o
      → (let r = act c w ask_satisfied m in (r.outcome ≡ outcome.satisfied w (is_satisfied o m.board)) × (r.manager.board ≡ m.board))
  pub of_none : (c : Client) (w : ℕ) (t : Turn) (m : Manager) → IsAt w t next_step.ask_satisfied m → owner t ≡ None
      → (let r = act c w ask_satisfied m in (r.outcome ≡ outcome.satisfied w true) × (r.manager.board ≡ forgotten t.work_key.key m.board))

-- ---- the end of a turn

-- after the first command only what follows it is not done; that command is, unless it was refused, even where its answer was lost
pub record LostMayBeDone : Type 0 where
  pub of_lost : (t : Turn) (x : Command) (rest : List Command) → t.issues ≡ [] → commands t ≡ x ∷ rest → undone (with_issue (record { command = x; answer = lost }) t) ≡ rest
  pub of_refused : (t : Turn) (x : Command) (rest : List Command) (code : ℕ) → t.issues ≡ [] → commands t ≡ x ∷ rest
      → undone (with_issue (record { command = x; answer = refused code }) t) ≡ x ∷ rest

-- where a turn did not go well, as many creations are expected no longer as were not done
abbrev pub UndoneIsExpectedNoMore : Type 0
UndoneIsExpectedNoMore =
    (t : Turn) (o : Owner) (b : Board) → all_accepted t.issues ≡ false → owner t ≡ Some o
    → creations_left o (ended t b).expected ≡ creations_left o b.expected - length (filter creates_pod (undone t))

-- then its key waits, twice as long with each failure in a row; where it went well its failures are forgotten
pub record FailedKeysWait : Type 0 where
  pub it_waits : (t : Turn) (b : Board) → all_accepted t.issues ≡ false
      → (let n = failures t.work_key b.failures in
      (map.get (ended t b).delays t.work_key ≡ Some (earlier (map.get b.delays t.work_key) (b.time + delay_after n)))
      × (failures t.work_key (ended t b).failures ≡ min (n + 1) 32))
  pub it_is_forgotten : (t : Turn) (b : Board) → all_accepted t.issues ≡ true → (failures t.work_key (ended t b).failures ≡ 0) × ((ended t b).delays ≡ b.delays)
