-- What a replay writes for what it reads.
use Rattle.std.specs.Prelude.{◌≡◌, ℕ, List, Option}
use Rattle.spec_api.specs.Replies as answers
use Rattle.spec_line_protocol.specs.Lines as lines
use Rattle.line_service.specs.Replies as service
use Rattle.line_service.specs.Replies.{lines_of, replies, none_refused, reply_or_refusal, next_or_same}
use Rattle.line_service.specs.declared.fault.RunFault.{RunFault}
use Rattle.line_session.specs.Refusals.{refusal}

-- a session with windows of this size has answered all lines of the input, from the start on: what was appended is the reply to each, or for
-- some of them that there was no memory, and these changed nothing
abbrev pub AnswersAll : ℕ → Option (List ℕ) → Option (List ℕ) → List ℕ → Type 0
AnswersAll window old new input = (last : answers.Session) × service.AnswersAll lines.reply lines.next refusal (answers.start window) last old new input

-- it has answered so some of them, from the first on, and no others: all of that was appended, unless writing failed, and then all but the
-- last one's and a beginning of that
abbrev pub AnswersSome : ℕ → RunFault → Option (List ℕ) → Option (List ℕ) → List ℕ → Type 0
AnswersSome window why old new input = (last : answers.Session) × service.AnswersSome lines.reply lines.next refusal why (answers.start window) last old new input

-- where no line is refused, the replies are what the definitions say of all that is read
abbrev pub RepliesAreReplays : Type 0
RepliesAreReplays =
    (window : ℕ) (input : List ℕ) → replies (reply_or_refusal lines.reply refusal) (next_or_same lines.next) (answers.start window) (none_refused (lines_of input)) ≡ lines.replay_with window input
