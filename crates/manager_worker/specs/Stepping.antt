-- What a worker's steps are: each is the one that comes next in its turn.
use Rattle.std.specs.Prelude.{◌≡◌, ◌⊎◌, ◌≤◌, ◌<◌, ℕ, Option, None, Some, IfSome, Bool, true, false, Result, Ok, Err}
use Rattle.baton.specs.declared.views.Known.{Known}
use Rattle.object_keys.specs.PerKind.{of_kind}
use Rattle.object_keys.specs.declared.per_kind.PerKind.{PerKind}
use Rattle.spec_api.specs.Keys.{Key}
use Rattle.spec_api.specs.ObjectRequests as words
use Rattle.spec_api.specs.declared.kinds.Kind.{Kind}
use Rattle.spec_client_go.specs.Commands.{Command}
use Rattle.spec_client_go.specs.Expectations.{Owner}
use Rattle.spec_sim.specs.Managers.{is_satisfied_for, requested}
use Rattle.spec_sim.specs.NextSteps.{NextStep, next, look, ask_satisfied, read, expect, issue, finish}
use Rattle.spec_sim.specs.Turns as turns
use Rattle.spec_sim.specs.Turns.{Turn, Expected, looked, owner, satisfied, with_sight, with_expected, with_issue}
use Rattle.spec_server.specs.Snapshots.{Snapshot}
use Rattle.http_client.specs.declared.answer.Answer as client
use Rattle.control_desk.specs.Calls.{IsCall, Nothing}
use Rattle.control_desk.specs.Steps.{Step, changing, forget}
use Rattle.control_desk.specs.declared.states.WorkState.{WorkState}
use Rattle.reconcile_turn.specs.Seen.{answer_of}
use Rattle.reconcile_turn.specs.declared.answers.CommandAnswer.{CommandAnswer}
use Rattle.manager_worker.specs.Finding.{Adds, FoundBy}
use Rattle.manager_worker.specs.Learning.{AsksOnce, AsksAtMost}
use Rattle.manager_worker.specs.Patience.{Heard, Hears}
use Rattle.manager_worker.specs.Telling.{expecting}
use Rattle.manager_worker.specs.declared.answers.Learnt.{Learnt}
use Rattle.manager_worker.specs.declared.answers.Learnt.TheVariants as learnt
use Rattle.live_reads.specs.declared.found.FoundObject.{FoundObject}
use Rattle.manager_worker.specs.declared.steps.Progress.{Progress}
use Rattle.manager_worker.specs.declared.steps.Progress.TheVariants as progress

-- a worker in its turn: the turn, what it looks at, its server, with how long that has asked in this turn to be left alone, and what its pass knows of the
-- board
pub record InTurn (L A : Type 0) : Type 0 where
  pub turn : Turn
  pub listers : L
  pub server : Heard A
  pub known : Known WorkState Step

abbrev pub in_turn : {L A : Type 0} → Turn → L → Heard A → Known WorkState Step → InTurn L A
in_turn t listers server v = record { turn = t; listers = listers; server = server; known = v }

-- a step for which memory runs out is not taken, and is to be tried again
abbrev pub told : {E : Type 0} → Result Progress E → Progress
told (Ok p) = p
told (Err e) = progress.Again

-- ---- what a step does at the board

-- a pass has seen what happened at the board, and did nothing there
abbrev pub Sees : Known WorkState Step → Known WorkState Step → Type 0
Sees v w = IsCall v (λ b. None) Nothing w

-- or not even that
abbrev pub OnlySees : Known WorkState Step → Known WorkState Step → Type 0
OnlySees v w = (w ≡ v) ⊎ Sees v w

-- where there is no ReplicaSet any more, what was expected under its key is forgotten
abbrev pub asking : Option Owner → Key → WorkState → Option Step
asking None k = changing (forget k)
asking (Some o) k = λ s. None

-- it is answered whether all pods that were expected have been seen
abbrev pub Asks : Turn → Known WorkState Step → Turn → Known WorkState Step → Progress → Type 0
Asks t v u w progress.Went = (b : Bool) × (u ≡ with_sight (satisfied b) t) × IsCall v (asking (owner t) t.work_key.key) (λ d. b ≡ is_satisfied_for (owner t) d.board) w
Asks t v u w progress.Again = (u ≡ t) × OnlySees v w
Asks t v u w progress.GivenUp = ⊥
Asks t v u w progress.AtEnd = ⊥
Asks t v u w progress.CutShort = ⊥

-- what the plan makes of pods is expected
abbrev pub Expects : Expected → Turn → Known WorkState Step → Turn → Known WorkState Step → Progress → Type 0
Expects e t v u w progress.Went = (u ≡ with_expected t) × IsCall v (changing (expecting e)) Nothing w
Expects e t v u w progress.Again = (u ≡ t) × OnlySees v w
Expects e t v u w progress.GivenUp = ⊥
Expects e t v u w progress.AtEnd = ⊥
Expects e t v u w progress.CutShort = ⊥

-- ---- what it looks at

module _ {L : Type 0} (shows : L → Kind → Option Snapshot → L → Type 0) (handled : PerKind ℕ) where
  -- A look at a kind adds what was shown of it, which is no older than what was handled of this kind before the key was taken. Where it is older, the turn is
  -- given up, so that no worker looks past the change that owed its key; where nothing was shown, or there was no memory for it, the turn stays as it is.
  abbrev pub Looks : Kind → Turn → L → Turn → L → Progress → Type 0
  Looks k t before u after progress.Went = (s : Snapshot) × shows before k (Some s) after × (of_kind k handled ≤ s.revision) × (u ≡ with_sight (looked k s) t)
  Looks k t before u after progress.Again = (found : Option Snapshot) × shows before k found after × IfSome found (λ s. of_kind k handled ≤ s.revision) × (u ≡ t)
  Looks k t before u after progress.GivenUp = (s : Snapshot) × shows before k (Some s) after × (s.revision < of_kind k handled) × (u ≡ t)
  Looks k t before u after progress.AtEnd = ⊥
  Looks k t before u after progress.CutShort = ⊥

-- ---- what it asks of the server

-- an answer is noted, or where there is no memory for it, that it is lost
abbrev pub Notes : Command → CommandAnswer → Turn → Turn → Type 0
Notes x a t u = (u ≡ with_issue (record { command = x; answer = answer_of a }) t) ⊎ (u ≡ with_issue (record { command = x; answer = turns.lost }) t)

-- what is learnt of a command is noted, unless it is to be issued again, or all is to stop
abbrev pub Heeds : Command → Learnt → Turn → Turn → Progress → Type 0
Heeds x (learnt.Known a) t u progress.Went = Notes x a t u
Heeds x (learnt.Known a) t u progress.CutShort = u ≡ t
Heeds x (learnt.Known a) t u progress.Again = ⊥
Heeds x (learnt.Known a) t u progress.GivenUp = ⊥
Heeds x (learnt.Known a) t u progress.AtEnd = ⊥
Heeds x learnt.Again t u p = (p ≡ progress.Again) × (u ≡ t)

module _ {A : Type 0} (answers : A → words.Request → client.Answer → A → Type 0) where
  -- a live read adds what the server's answer says; it can be refused, and then the turn is given up and stays as it is
  abbrev pub Reads : Key → Turn → A → Turn → A → Progress → Type 0
  Reads k t before u after progress.Went = (f : FoundObject) × FoundBy answers k before f after × Adds f k t u progress.Went
  Reads k t before u after progress.Again = (u ≡ t) × AsksAtMost answers before (words.get_object k) after
  Reads k t before u after progress.GivenUp = (f : FoundObject) × FoundBy answers k before f after × Adds f k t u progress.GivenUp
  Reads k t before u after progress.AtEnd = ⊥
  Reads k t before u after progress.CutShort = ⊥

  -- The server is asked for a command once, and what is noted is what its answer says. It is asked for it again only where that says that nothing was done, or
  -- where it was not asked. Where its answer is not noted, as all is to stop, the turn is cut short.
  abbrev pub Issues : Command → Turn → A → Turn → A → Progress → Type 0
  Issues x t before u after progress.Went = (a : CommandAnswer) × AsksOnce answers before (requested t x) (learnt.Known a) after × Notes x a t u
  Issues x t before u after progress.Again = (u ≡ t) × ((after ≡ before) ⊎ AsksOnce answers before (requested t x) learnt.Again after)
  Issues x t before u after progress.GivenUp = ⊥
  Issues x t before u after progress.AtEnd = ⊥
  Issues x t before u after progress.CutShort = (a : CommandAnswer) × AsksOnce answers before (requested t x) (learnt.Known a) after × (u ≡ t)

-- ---- a step

-- whether a turn may go on after a step; one that is given up does where there is no memory for giving back its key
abbrev pub is_going : Progress → Bool
is_going progress.Went = true
is_going progress.Again = true
is_going progress.GivenUp = true
is_going progress.AtEnd = true
is_going progress.CutShort = false

module _ {L A : Type 0} (shows : L → Kind → Option Snapshot → L → Type 0) (answers : A → words.Request → client.Answer → A → Type 0) (handled : PerKind ℕ) where
  -- a step is taken as it is told, and does nothing else; the end of a turn changes nothing
  abbrev pub Takes : NextStep → InTurn L A → InTurn L A → Progress → Type 0
  Takes (look k) s z p = Looks shows handled k s.turn s.listers z.turn z.listers p × (z.server ≡ s.server) × (z.known ≡ s.known)
  Takes ask_satisfied s z p = Asks s.turn s.known z.turn z.known p × (z.listers ≡ s.listers) × (z.server ≡ s.server)
  Takes (read k) s z p = Reads (Hears answers) k s.turn s.server z.turn z.server p × (z.listers ≡ s.listers) × (z.known ≡ s.known)
  Takes (expect e) s z p = Expects e s.turn s.known z.turn z.known p × (z.listers ≡ s.listers) × (z.server ≡ s.server)
  Takes (issue x) s z p = Issues (Hears answers) x s.turn s.server z.turn z.server p × (z.listers ≡ s.listers) × (z.known ≡ s.known)
  Takes finish s z p = (p ≡ progress.AtEnd) × (z ≡ s)

  -- the step that comes next is taken
  abbrev pub Steps : InTurn L A → InTurn L A → Progress → Type 0
  Steps s z p = Takes (next s.turn) s z p

  -- a worker comes from one place in its turn to another by steps, each of which comes next; meanwhile its pass may see what happened at the board
  pub data Reaches (s : InTurn L A) : InTurn L A → Type 0 where
    none : Reaches s s
    more : (u z : InTurn L A) (p : Progress) → Reaches s u → Steps u z p → is_going p ≡ true → Reaches s z
    sees : (u : InTurn L A) (w : Known WorkState Step) → Reaches s u → Sees u.known w → Reaches s (in_turn u.turn u.listers u.server w)
