-- What follows for sessions: one whose server stands for what has happened answers as what has happened does.
use Rattle.std.specs.Prelude.{◌≡◌, ℕ, List}
use Rattle.spec_line_protocol.specs.Lines as lines
use Rattle.spec_api.specs.Replies as answers
use Rattle.spec_server.specs.Servers.{IsServerAfter}
use Rattle.line_session.specs.SessionStates.{SessionState, begun, reply_by_state, next_state}

-- the server stands for what has happened, with windows of the session's size, and it is the same moment
abbrev pub Follows : SessionState → answers.Session → Type 0
Follows state s = IsServerAfter s.window state.server s.history × (state.moment ≡ s.moment)

-- a session begins so, replies to a line as the definitions say of all that has happened, and goes on so
abbrev pub SessionsFollow : Type 0
SessionsFollow =
    ((window : ℕ) → Follows (begun window) (answers.start window))
    × ((state : SessionState) (s : answers.Session) (line : List ℕ) → Follows state s → (reply_by_state state line ≡ lines.reply s line) × Follows (next_state state line) (lines.next s line))
