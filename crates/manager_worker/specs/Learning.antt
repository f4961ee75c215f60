-- What a worker learns of its command (RFC 9110, Status Codes).
use Rattle.std.specs.Prelude.{◌≡◌, ◌⊎◌, ◌≤◌, ◌<◌, ◌&&◌, ◌||◌, ℕ, List, Bool, true, false, not, nat_eq, codes, if◌then◌else◌}
use Rattle.std.specs.List.{starts_with}
use Rattle.std.specs.Str.{IsUtf8}
use Rattle.http_client.specs.declared.answer.Answer as client
use Rattle.http_client.specs.declared.answer.Answer.TheVariants as outcome
use Rattle.spec_api.specs.ObjectRequests as words
use Rattle.spec_sim.specs.Turns as turns
use Rattle.request_encoding.specs.Texts.{can_be_told}
use Rattle.reconcile_turn.specs.Seen.{answer_of, data_of}
use Rattle.reconcile_turn.specs.declared.answers.CommandAnswer.{CommandAnswer}
use Rattle.reconcile_turn.specs.declared.answers.CommandAnswer.TheVariants as answer
use Rattle.manager_worker.specs.declared.answers.Learnt.{Learnt}
use Rattle.manager_worker.specs.declared.answers.Learnt.TheVariants as learnt

-- a code by which a server accepts a request
abbrev pub Accepts : ℕ → Type 0
Accepts code = (200 ≤ code) × (code < 300)

-- an accepted command is answered with the code and the text of the body; a body that is no text is as good as lost
pub record IsAccepted (code : ℕ) (body : List ℕ) (a : CommandAnswer) : Type 0 where
  pub text : IsUtf8 body → answer_of a ≡ turns.accepted code (data_of body)
  pub none : ¬ (IsUtf8 body) → answer_of a ≡ turns.lost

-- a body that begins as a JSON object does
abbrev pub begins_as_object : List ℕ → Bool
begins_as_object body = starts_with nat_eq body (codes "{")

-- a reply that leaves it open whether a command was carried out: a gateway's (502, 504), and a failure (500) that is told by no object
abbrev pub leaves_open : ℕ → List ℕ → Bool
leaves_open code body = nat_eq code 502 || nat_eq code 504 || (nat_eq code 500 && not (begins_as_object body))

-- what became of a command that a server replied to: one that is not accepted is lost where that is left open, else refused
pub record IsAnswer (code : ℕ) (body : List ℕ) (a : CommandAnswer) : Type 0 where
  pub accepted : Accepts code → IsAccepted code body a
  pub other : ¬ (Accepts code) → answer_of a ≡ (if leaves_open code body then turns.lost else turns.refused code)

-- a command that was not sent is to be made again; of one that was, and has no reply, nothing is known
abbrev pub LearnsOf : client.Answer → Learnt → Type 0
LearnsOf (outcome.Replied r) l = (a : CommandAnswer) × (l ≡ learnt.Known a) × IsAnswer r.code r.body.items a
LearnsOf outcome.NotSent l = l ≡ learnt.Again
LearnsOf outcome.Lost l = l ≡ learnt.Known answer.Lost

-- ---- what is asked

module _ {A : Type 0} (answers : A → words.Request → client.Answer → A → Type 0) where
  abbrev pub AsksIf : Bool → A → words.Request → Learnt → A → Type 0
  AsksIf false before q l after = (l ≡ learnt.Known (answer.Refused 400)) × (after ≡ before)
  AsksIf true before q l after = (a : client.Answer) × answers before q a after × LearnsOf a l

  -- a request is asked, once, and what is learnt is what its answer says; one that cannot be told over HTTP is not asked, and as good as refused with 400
  abbrev pub AsksOnce : A → words.Request → Learnt → A → Type 0
  AsksOnce before q l after = AsksIf (can_be_told q) before q l after

  -- a request was asked, once, or nothing was
  abbrev pub AsksAtMost : A → words.Request → A → Type 0
  AsksAtMost before q after = (after ≡ before) ⊎ ((a : client.Answer) × answers before q a after)
