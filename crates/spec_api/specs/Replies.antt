-- What is answered at a moment by what has happened, whoever asks.
use Rattle.std.specs.Prelude.{ℕ, List, [], Result, Ok, Err, codes}
use Rattle.spec_api.specs.declared.kinds.Kind.{Kind}
use Rattle.spec_api.specs.State.History.{History}
use Rattle.spec_api.specs.Answers.Lists.{list_outcome}
use Rattle.spec_api.specs.Objects.Refusals.{Refusal}
use Rattle.spec_api.specs.Watching.Streams as streams
use Rattle.spec_api.specs.Requests.Targets.{Asked, request, list, watch}
use Rattle.spec_api.specs.Watching.WatchReplies.{watch_lines}
use Rattle.spec_api.specs.Answers.Verbs.{Outcome, refused, history_after, accept}

-- what has happened, the moment that it is, and how many of the last changes of each kind are recorded for watches and lists of earlier revisions
pub record Session : Type 0 where
  pub history : History
  pub moment : List ℕ
  pub window : ℕ

-- how many changes of each kind are recorded by default
abbrev pub default_window : ℕ
default_window = 1024

-- a session begins with nothing, at the start of 2026
abbrev pub start : ℕ → Session
start window = record { history = []; moment = codes "2026-01-01T00:00:00Z"; window = window }

-- what is answered: an outcome, the lines of a watch of a kind, or a compaction, with the history after it
pub data Reply : Type 0 where
  outcome : Outcome → Reply
  shown : Kind → List streams.Line → Reply
  compacted : History → Reply

abbrev pub watch_reply : Kind → Result (List streams.Line) Refusal → Reply
watch_reply k (Err f) = outcome (refused f)
watch_reply k (Ok ls) = shown k ls

abbrev pub reply_for : Session → Result Asked Refusal → Reply
reply_for s (Err f) = outcome (refused f)
reply_for s (Ok (request q)) = outcome (accept q s.history s.moment)
reply_for s (Ok (list v o)) = outcome (list_outcome s.window s.history v o)
reply_for s (Ok (watch v o)) = watch_reply v.kind (watch_lines s.window s.history v o)

abbrev pub compact_reply : Result History Refusal → Reply
compact_reply (Err f) = outcome (refused f)
compact_reply (Ok more) = compacted more

-- the history after a reply
abbrev pub history_from : History → Reply → History
history_from h (outcome o) = history_after h o
history_from h (shown k ls) = h
history_from h (compacted more) = more
