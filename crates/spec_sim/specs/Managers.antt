-- The controller manager: the board, and workers that take turns by it (kubernetes, kube-controller-manager).
use Rattle.std.specs.Prelude.{ℕ, ◌==◌, ◌&&◌, List, [], ◌∷◌, ◌++◌, length, map, replicate, Bool, true, false, Option, Some, None, option_and_then, slice_get, slice_set, if◌then◌else◌}
use Rattle.serde_json.specs.Data.{Data}
use Rattle.spec_api.specs.declared.kinds.Kind.{Kind}
use Rattle.spec_api.specs.Keys.{Key}
use Rattle.spec_api.specs.Kinds.{rank}
use Rattle.spec_api.specs.Metadata.{version}
use Rattle.spec_api.specs.ObjectRequests.{Request}
use Rattle.spec_api.specs.Refusals as refusals
use Rattle.spec_api.specs.Verbs as verbs
use Rattle.spec_server.specs.Snapshots.{Snapshot}
use Rattle.spec_client_go.specs.Commands.{Command, request_of}
use Rattle.spec_client_go.specs.Expectations.{Owner}
use Rattle.spec_client_go.specs.WorkQueues.{WorkKey, handed}
use Rattle.spec_client_go.specs.Boards as boards
use Rattle.spec_client_go.specs.Boards.{Board, is_satisfied, forgotten, expecting_creations, expecting_deletions, requeued}
use Rattle.spec_sim.specs.NextSteps as next_step
use Rattle.spec_sim.specs.NextSteps.{NextStep, next}
use Rattle.spec_sim.specs.Outcomes.{Outcome, no_step, took, looked, satisfied, read, expected, issued, finished}
use Rattle.spec_sim.specs.Turns as turns
use Rattle.spec_sim.specs.Turns.{Turn, Answer, accepted, refused, lost, Expected, with_sight, with_read, with_expected, with_issue, all_accepted, version_answered, owner, taken_back}

-- ---- what a worker can reach

-- of a cluster: whether each kind has been published; what is published of a kind (client-go, Lister); what is there under a key, and
-- what a request is answered (client-go, Clientset)
pub record Client : Type 0 where
  pub has_synced : Bool
  pub published : Kind → Snapshot
  pub live : Key → Option Data
  pub answer : Request → verbs.Outcome

-- ---- the manager

-- a command that was issued, the turn in which it was, before it, and its answer
pub record Issued : Type 0 where
  pub turn : Turn
  pub command : Command
  pub answer : Answer

-- the board; for each worker its turn, or none; and all commands that were issued, in order
pub record Manager : Type 0 where
  pub board : Board
  pub turns : List (Option Turn)
  pub issued : List Issued

-- with so many workers
abbrev pub begun : ℕ → Manager
begun workers = record { board = boards.begun; turns = replicate workers None; issued = [] }

-- only what was issued stays
abbrev pub restarted : Manager → Manager
restarted m = record { board = boards.begun; turns = map (λ t. None) m.turns; issued = m.issued }

abbrev pub with_turn : ℕ → Option Turn → Manager → Manager
with_turn w t m = record m { turns = slice_set m.turns w t }

-- ---- what a worker does

-- whether a command reaches the server and its answer the worker, or the answer is lost, or the command
pub data Delivery : Type 0 where
  delivered : Delivery
  answer_lost : Delivery
  dropped : Delivery

pub data Action : Type 0 where
  take : Action
  look : Kind → Action
  ask_satisfied : Action
  read_live : Action
  expect : Action
  issue : Delivery → Action
  finish : Action

-- the manager after an action, what the server was asked, and what is told
pub record Acted : Type 0 where
  pub manager : Manager
  pub request : Option Request
  pub outcome : Outcome

abbrev pub closed : Manager → Acted
closed m = record { manager = m; request = None; outcome = no_step }

abbrev pub acted : Manager → Outcome → Acted
acted m o = record { manager = m; request = None; outcome = o }

-- ---- a key is taken

abbrev pub take_key : ℕ → Option WorkKey → Manager → Acted
take_key w None m = acted m (took w None)
take_key w (Some k) m = acted (record m { board = boards.taken m.board; turns = slice_set m.turns w (Some (turns.begun k)) }) (took w (Some k))

-- ---- what is seen and read

abbrev pub look_at : Client → ℕ → Turn → Kind → Manager → Acted
look_at c w t k m = acted (with_turn w (Some (with_sight (turns.looked k (c.published k)) t)) m) (looked w k (c.published k).revision)

-- whether a ReplicaSet expects nothing, or has waited too long; so it is where there is no ReplicaSet
abbrev pub is_satisfied_for : Option Owner → Board → Bool
is_satisfied_for None b = true
is_satisfied_for (Some o) b = is_satisfied o b

-- where there is none, what was expected under its key is forgotten
abbrev pub forgotten_unless : Option Owner → Key → Board → Board
forgotten_unless None k b = forgotten k b
forgotten_unless (Some o) k b = b

abbrev pub ask : ℕ → Turn → Manager → Acted
ask w t m =
    let met = is_satisfied_for (owner t) m.board in
    acted (record m { board = forgotten_unless (owner t) t.work_key.key m.board; turns = slice_set m.turns w (Some (with_sight (turns.satisfied met) t)) }) (satisfied w met)

abbrev pub read_key : Client → ℕ → Turn → Key → Manager → Acted
read_key c w t k m = acted (with_turn w (Some (with_read (record { key = k; found = c.live k }) t)) m) (read w k (option_and_then version (c.live k)))

-- ---- what is expected

-- no plan both creates pods and deletes some
abbrev pub expecting : Expected → Board → Board
expecting e b = if e.creations == 0 then expecting_deletions e.owner e.deletions b else expecting_creations e.owner e.creations b

abbrev pub expect_pods : ℕ → Turn → Expected → Manager → Acted
expect_pods w t e m = acted (record m { board = expecting e m.board; turns = slice_set m.turns w (Some (with_expected t)) }) (expected w e.creations (length e.deletions))

-- ---- a command is issued

abbrev pub answer_of : verbs.Outcome → Answer
answer_of (verbs.answered a) = accepted a.code a.body
answer_of (verbs.refused f) = refused (refusals.code f)

-- what the worker learns
abbrev pub learnt : Delivery → verbs.Outcome → Answer
learnt delivered o = answer_of o
learnt answer_lost o = lost
learnt dropped o = lost

-- what the server is asked
abbrev pub reaching : Delivery → Request → Option Request
reaching delivered q = Some q
reaching answer_lost q = Some q
reaching dropped q = None

-- the request of a command: a delete may name the version of the answer before
abbrev pub requested : Turn → Command → Request
requested t x = request_of (version_answered t.issues) x

abbrev pub issue_command : Client → ℕ → Turn → Command → Delivery → Manager → Acted
issue_command c w t x d m =
    let q = requested t x in
    let a = learnt d (c.answer q) in
    record {
      manager = record m { turns = slice_set m.turns w (Some (with_issue (record { command = x; answer = a }) t)); issued = m.issued ++ record { turn = t; command = x; answer = a } ∷ [] };
      request = reaching d q;
      outcome = issued w x a;
    }

-- ---- a turn ends

-- the key leaves the worker's hands; unless all was accepted, it waits for its delay, and what was not done is expected no longer
abbrev pub ended : Turn → Board → Board
ended t b = if all_accepted t.issues then boards.finished t.work_key b else requeued t.work_key (taken_back t) b

abbrev pub finish_turn : ℕ → Turn → Manager → Acted
finish_turn w t m = acted (record m { board = ended t m.board; turns = slice_set m.turns w None }) (finished w (all_accepted t.issues))

-- ---- an action

-- the next step of a turn
abbrev pub carry_out : Client → ℕ → Turn → Delivery → NextStep → Manager → Acted
carry_out c w t d (next_step.look k) m = look_at c w t k m
carry_out c w t d next_step.ask_satisfied m = ask w t m
carry_out c w t d (next_step.read k) m = read_key c w t k m
carry_out c w t d (next_step.expect e) m = expect_pods w t e m
carry_out c w t d (next_step.issue x) m = issue_command c w t x d m
carry_out c w t d next_step.finish m = finish_turn w t m

-- whether an action is the step that comes next
abbrev pub is_for : Action → NextStep → Bool
is_for (look j) (next_step.look k) = rank j == rank k
is_for ask_satisfied next_step.ask_satisfied = true
is_for read_live (next_step.read k) = true
is_for expect (next_step.expect e) = true
is_for (issue d) (next_step.issue x) = true
is_for finish next_step.finish = true
is_for a n = false

abbrev pub delivery_of : Action → Delivery
delivery_of (issue d) = d
delivery_of a = delivered

abbrev pub is_take : Action → Bool
is_take take = true
is_take a = false

-- a worker in its turn goes on with it; one without takes a key, once each kind has been published; no other action is open
abbrev pub act_in : Client → ℕ → Action → Option (Option Turn) → Manager → Acted
act_in c w a None m = closed m
act_in c w a (Some None) m = if is_take a && c.has_synced then take_key w (handed m.board.work) m else closed m
act_in c w a (Some (Some t)) m = if is_for a (next t) then carry_out c w t (delivery_of a) (next t) m else closed m

abbrev pub act : Client → ℕ → Action → Manager → Acted
act c w a m = act_in c w a (slice_get m.turns w) m
