-- What the values of the code say, as the definitions have it.
use Rattle.std.specs.Prelude.{◌≡◌, ℕ, List, map, unwrap_or, string_bytes, Option, Some, None}
use Rattle.serde_json.specs.Data.{Data, null}
use Rattle.serde_json.specs.Read.{read}
use Rattle.spec_api.specs.Keys.{Key}
use Rattle.spec_client_go.specs.Commands.{Command}
use Rattle.work_board.specs.Seen.{owner_of}
use Rattle.object_keys.specs.Keys.{key_of}
use Rattle.spec_sim.specs.NextSteps as steps
use Rattle.spec_sim.specs.NextSteps.{next, look, ask_satisfied, expect, issue, finish}
use Rattle.spec_sim.specs.Turns as turns
use Rattle.spec_sim.specs.Turns.{Turn, looked, satisfied, accepted, refused, lost, with_read, with_issue}
use Rattle.reconcile_types.specs.Commands.{command_of}
use Rattle.reconcile_turn.specs.declared.answers.CommandAnswer.{CommandAnswer}
use Rattle.reconcile_turn.specs.declared.answers.CommandAnswer.TheVariants as answer
use Rattle.reconcile_turn.specs.declared.expected.Expected.{Expected}
use Rattle.reconcile_turn.specs.declared.next_steps.NextStep.{NextStep}
use Rattle.reconcile_turn.specs.declared.next_steps.NextStep.TheVariants.{Look, AskSatisfied, Read, Expect, Issue, Finish}
use Rattle.reconcile_turn.specs.declared.sights.Sight.{Sight}
use Rattle.reconcile_turn.specs.declared.sights.Sight.TheVariants.{Looked, Satisfied}

-- ---- what is seen and learnt

abbrev pub sight_of : Sight → turns.Sight
sight_of (Looked k s) = looked k s
sight_of (Satisfied b) = satisfied b

-- the JSON of a body; null where it is none
abbrev pub data_of : List ℕ → Data
data_of text = unwrap_or (read text) null

abbrev pub answer_of : CommandAnswer → turns.Answer
answer_of (answer.Accepted code text) = accepted code (data_of (string_bytes text))
answer_of (answer.Refused code) = refused code
answer_of answer.Lost = lost

abbrev pub expected_of : Expected → turns.Expected
expected_of e = record { owner = owner_of e.owner; creations = e.creations; deletions = map string_bytes e.deletions.items }

-- ---- what is next

-- the step is the one that comes next in a turn
abbrev pub IsNext : NextStep → Turn → Type 0
IsNext (Look k) t = next t ≡ look k
IsNext AskSatisfied t = next t ≡ ask_satisfied
IsNext (Read k) t = next t ≡ steps.read (key_of k.now)
IsNext Expect t = (e : turns.Expected) × (next t ≡ expect e)
IsNext (Issue c) t = next t ≡ issue (command_of c.now)
IsNext Finish t = next t ≡ finish

-- the step that a sight is of
abbrev pub step_of : Sight → steps.NextStep
step_of (Looked k s) = look k
step_of (Satisfied b) = ask_satisfied

-- the key that a step reads live
abbrev pub key_read : steps.NextStep → Option Key
key_read (look k) = None
key_read ask_satisfied = None
key_read (steps.read k) = Some k
key_read (expect e) = None
key_read (issue x) = None
key_read finish = None

-- what a step expects
abbrev pub expectation : steps.NextStep → Option turns.Expected
expectation (look k) = None
expectation ask_satisfied = None
expectation (steps.read k) = None
expectation (expect e) = Some e
expectation (issue x) = None
expectation finish = None

-- the command that a step issues
abbrev pub command_issued : steps.NextStep → Option Command
command_issued (look k) = None
command_issued ask_satisfied = None
command_issued (steps.read k) = None
command_issued (expect e) = None
command_issued (issue x) = Some x
command_issued finish = None

-- ---- what comes of a step

-- a turn once a key was read live
abbrev pub found_under : Option Key → Option Data → Turn → Turn
found_under None found t = t
found_under (Some k) found t = with_read (record { key = k; found = found }) t

-- a turn once a command was answered
abbrev pub answered_to : Option Command → turns.Answer → Turn → Turn
answered_to None a t = t
answered_to (Some x) a t = with_issue (record { command = x; answer = a }) t
