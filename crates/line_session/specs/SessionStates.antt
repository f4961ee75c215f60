-- A session as it is stored, and how it goes on: a server stands in the place of all that has happened.
use Rattle.std.specs.Prelude.{◌≡◌, ℕ, List, [], ◌==◌, length, false, Option, Some, None, Result, Ok, Err, refl, if◌then◌else◌}
use Rattle.std.specs.Coded.{Coded, code_by, coded×}
use Rattle.model_encodings.specs.Codes.{coded_text}
use Rattle.spec_api.specs.declared.refusals.Part.TheVariants as part
use Rattle.spec_api.specs.History.{Write}
use Rattle.spec_line_protocol.specs.Lines.{Line, ask, at, compact, unreadable, line_of, line_text, reply_text}
use Rattle.spec_api.specs.Replies.{start, Reply, outcome, shown, compacted, watch_reply}
use Rattle.spec_server.specs.Servers.{list_served, Server, opened_server, after_write, after_writing, compact_by, watch_served}
use Rattle.spec_api.specs.Refusals.{Refusal, bad_request, success_body}
use Rattle.spec_server.specs.Codes.{coded_server}
use Rattle.spec_api.specs.Targets.{Asked, request, list, watch, read_request}
use Rattle.spec_api.specs.Verbs.{Outcome, refused, write_of, accept_at, overflows}
use Rattle.spec_api.specs.ObjectRequests.{Request}

-- a server, and the moment that it is
pub record SessionState : Type 0 where
  pub server : Server
  pub moment : List ℕ

-- a code by which a model may hold it
abbrev pub coded_state : Coded SessionState
coded_state = code_by (Server × List ℕ) (coded× coded_server coded_text) (λ s. (s.server, s.moment)) (λ p. record { server = p.0; moment = p.1 }) (λ _. refl)

-- a session begins with a server where nothing is there, at the moment at which sessions begin
abbrev pub begun : ℕ → SessionState
begun window = record { server = opened_server window; moment = (start window).moment }

-- ---- what is answered

-- what a request is answered
abbrev pub accepted : SessionState → Request → Outcome
accepted s q = accept_at q s.server.snapshot.members s.server.snapshot.revision s.moment

-- the reply to what is asked
abbrev pub reply_for : SessionState → Result Asked Refusal → Reply
reply_for s (Err f) = outcome (refused f)
reply_for s (Ok (request q)) = outcome (accepted s q)
reply_for s (Ok (list v o)) = outcome (list_served s.server v o)
reply_for s (Ok (watch v o)) = watch_reply v.kind (watch_served s.server v o)

-- of a compaction a success
abbrev pub compact_text : Result Server Refusal → List ℕ
compact_text (Err f) = reply_text (outcome (refused f))
compact_text (Ok s) = line_text 200 (success_body None)

abbrev pub reply_to : SessionState → Line → List ℕ
reply_to s (ask method target body) = reply_text (reply_for s (read_request method target body))
reply_to s (at moment) = []
reply_to s (compact r) = compact_text (compact_by s.server r)
reply_to s unreadable = reply_text (outcome (refused (bad_request part.Head)))

-- an empty line is skipped
abbrev pub reply_by_state : SessionState → List ℕ → List ℕ
reply_by_state s t = if length t == 0 then [] else reply_to s (line_of t)

-- ---- what is stored then

-- the server takes in what a reply writes
abbrev pub server_from : Server → Reply → Server
server_from s (outcome o) = after_writing s (write_of o)
server_from s (shown k ls) = s
server_from s (compacted h) = s

-- a compaction that is refused changes nothing
abbrev pub server_or : Server → Result Server Refusal → Server
server_or s (Err f) = s
server_or s (Ok t) = t

abbrev pub state_after : SessionState → Line → SessionState
state_after s (ask method target body) = record s { server = server_from s.server (reply_for s (read_request method target body)) }
state_after s (at moment) = record s { moment = moment }
state_after s (compact r) = record s { server = server_or s.server (compact_by s.server r) }
state_after s unreadable = s

abbrev pub next_state : SessionState → List ℕ → SessionState
next_state s t = if length t == 0 then s else state_after s (line_of t)

-- ---- what changes, as one effect

-- nothing; a write is made; it is another moment; or what happened up to a revision is compacted
pub data Effect : Type 0 where
  nothing : Effect
  write : Write → Effect
  moment : List ℕ → Effect
  compaction : ℕ → Effect

abbrev pub of_write : Option Write → Effect
of_write None = nothing
of_write (Some w) = write w

-- what a reply writes: an outcome alone does
abbrev pub written_by : Reply → Option Write
written_by (outcome o) = write_of o
written_by (shown k ls) = None
written_by (compacted h) = None

-- a compaction that is refused changes nothing
abbrev pub of_compaction : ℕ → Result Server Refusal → Effect
of_compaction r (Err f) = nothing
of_compaction r (Ok s) = compaction r

-- what a line changes
abbrev pub effect_on : SessionState → Line → Effect
effect_on s (ask method target body) = of_write (written_by (reply_for s (read_request method target body)))
effect_on s (at t) = moment t
effect_on s (compact r) = of_compaction r (compact_by s.server r)
effect_on s unreadable = nothing

-- the session once it has changed
abbrev pub changed_by : SessionState → Effect → SessionState
changed_by s nothing = s
changed_by s (write w) = record s { server = after_write s.server w }
changed_by s (moment t) = record s { moment = t }
changed_by s (compaction r) = record s { server = server_or s.server (compact_by s.server r) }

-- there is room for what is written
abbrev pub HasRoom : SessionState → Effect → Type 0
HasRoom s (write w) = overflows s.server.snapshot.members s.server.snapshot.revision w ≡ false
HasRoom s nothing = Unit {0}
HasRoom s (moment t) = Unit {0}
HasRoom s (compaction r) = Unit {0}
