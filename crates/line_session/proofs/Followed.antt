-- A session whose server stands for what has happened answers as what has happened does, and goes on so.
use Rattle.std.proofs.Common.{◌≡◌, ℕ, List, [], Bool, true, false, Result, Ok, Err, length, ◌==◌, if◌then◌else◌, refl, sym, ap, ◌∙◌, subst}
use Rattle.spec_api.specs.ListQueries.{ListOptions}
use Rattle.spec_api.specs.declared.kinds.Kind.{Kind}
use Rattle.spec_api.specs.History.{History, View}
use Rattle.spec_line_protocol.specs.Lines as lines
use Rattle.spec_api.specs.Replies as answers
use Rattle.spec_line_protocol.specs.Lines.{Line, ask, at, compact, unreadable, line_of, reply_text}
use Rattle.spec_api.specs.Replies.{outcome, watch_reply, compact_reply, history_from}
use Rattle.spec_api.specs.Lists.{list_answer}
use Rattle.spec_api.specs.Refusals.{Refusal}
use Rattle.spec_laws.specs.ServerLaws.{HoldOrRefuse}
use Rattle.spec_server.specs.Servers.{Server, IsServerAfter, after_writing, list_by, compact_by, watch_served}
use Rattle.spec_api.specs.Streams as streams
use Rattle.spec_api.specs.Targets.{Asked, request, list, watch, read_request}
use Rattle.spec_api.specs.Verbs.{refused, write_of, accept_at, accept, history_after}
use Rattle.spec_api.specs.ObjectRequests.{Request}
use Rattle.spec_api.specs.Versions.{Listed, list_for, compacts}
use Rattle.spec_api.specs.WatchReplies.{watch_lines}
use Rattle.spec_laws.proofs.ServerAnswers.{pages_held, lines_held}
use Rattle.spec_laws.proofs.ServerHistories.{opened_holds, accepted_holds, compaction_holds}
use Rattle.line_session.specs.SessionStates.{SessionState, accepted, reply_for, reply_to, server_from, server_or, state_after, compact_text}
use Rattle.line_session.specs.Laws.{Follows, SessionsFollow}

-- ---- what is asked

-- a request is answered the same
pub same_outcome : (state : SessionState) (s : answers.Session) → Follows state s → (q : Request) → accepted state q ≡ accept q s.history s.moment
same_outcome state s is q =
    ap (λ m. accept_at q state.server.snapshot.members state.server.snapshot.revision m) is.1 ∙ (accepted_holds s.window state.server s.history q s.moment is.0).0

-- and all else that is asked
same_reply : (state : SessionState) (s : answers.Session) → Follows state s → (a : Result Asked Refusal) → reply_for state a ≡ answers.reply_for s a
same_reply state s is (Err f) = refl
same_reply state s is (Ok (request q)) = ap outcome (same_outcome state s is q)
same_reply state s is (Ok (list v o)) = ap outcome (pages_held s.window state.server s.history v o is.0)
same_reply state s is (Ok (watch v o)) = ap (watch_reply v.kind) (lines_held s.window state.server s.history v o is.0)

-- lists and watches write nothing
list_still : (v : View) (o : ListOptions) (size : ℕ) (s : Server) (h : History) (served listed : Result Listed Refusal) → IsServerAfter size s h
    → IsServerAfter size (server_from s (outcome (list_answer v o served))) (history_from h (outcome (list_answer v o listed)))
list_still v o size s h (Err f) (Err g) is = is
list_still v o size s h (Err f) (Ok l) is = is
list_still v o size s h (Ok l) (Err g) is = is
list_still v o size s h (Ok l) (Ok m) is = is

watch_still : (k : Kind) (size : ℕ) (s : Server) (h : History) (served shown : Result (List streams.Line) Refusal) → IsServerAfter size s h
    → IsServerAfter size (server_from s (watch_reply k served)) (history_from h (watch_reply k shown))
watch_still k size s h (Err f) (Err g) is = is
watch_still k size s h (Err f) (Ok ls) is = is
watch_still k size s h (Ok ls) (Err g) is = is
watch_still k size s h (Ok ls) (Ok ms) is = is

-- what is stored after what is asked
holds_after : (state : SessionState) (s : answers.Session) → Follows state s → (a : Result Asked Refusal)
    → IsServerAfter s.window (server_from state.server (reply_for state a)) (history_from s.history (answers.reply_for s a))
holds_after state s is (Err f) = is.0
holds_after state s is (Ok (request q)) =
    subst (λ o. IsServerAfter s.window (after_writing state.server (write_of o)) (history_after s.history (accept q s.history s.moment))) (sym (same_outcome state s is q))
    (accepted_holds s.window state.server s.history q s.moment is.0).1
holds_after state s is (Ok (list v o)) =
    list_still v o s.window state.server s.history (list_by state.server v o.at) (list_for s.window s.history v o.at) is.0
holds_after state s is (Ok (watch v o)) =
    watch_still v.kind s.window state.server s.history (watch_served state.server v o) (watch_lines s.window s.history v o) is.0

-- ---- compactions

same_compaction : (size : ℕ) (a : Result Server Refusal) (b : Result History Refusal) → HoldOrRefuse size a b → compact_text a ≡ reply_text (compact_reply b)
same_compaction size (Err f) (Err g) e = ap (λ f. reply_text (outcome (refused f))) e
same_compaction size (Err f) (Ok h) e = absurd e
same_compaction size (Ok s) (Err g) e = absurd e
same_compaction size (Ok s) (Ok h) e = refl

holds_compacted : (size : ℕ) (s : Server) (h : History) (a : Result Server Refusal) (b : Result History Refusal) → HoldOrRefuse size a b → IsServerAfter size s h
    → IsServerAfter size (server_or s a) (history_from h (compact_reply b))
holds_compacted size s h (Err f) (Err g) e is = is
holds_compacted size s h (Err f) (Ok more) e is = absurd e
holds_compacted size s h (Ok t) (Err g) e is = absurd e
holds_compacted size s h (Ok t) (Ok more) e is = e

-- ---- lines

pub same_line : (state : SessionState) (s : answers.Session) → Follows state s → (l : Line) → reply_to state l ≡ lines.reply_to s l
same_line state s is (ask method target body) = ap reply_text (same_reply state s is (read_request method target body))
same_line state s is (at moment) = refl
same_line state s is (compact r) = same_compaction s.window (compact_by state.server r) (compacts s.history r) (compaction_holds s.window state.server s.history r is.0)
same_line state s is unreadable = refl

pub follows_line : (state : SessionState) (s : answers.Session) → Follows state s → (l : Line) → Follows (state_after state l) (lines.session_after s l)
follows_line state s is (ask method target body) = (holds_after state s is (read_request method target body), is.1)
follows_line state s is (at moment) = (is.0, refl)
follows_line state s is (compact r) =
    (holds_compacted s.window state.server s.history (compact_by state.server r) (compacts s.history r) (compaction_holds s.window state.server s.history r is.0) is.0, is.1)
follows_line state s is unreadable = is

same_if : (empty : Bool) (state : SessionState) (s : answers.Session) → Follows state s → (l : Line)
    → ((if empty then [] else reply_to state l) ≡ (if empty then [] else lines.reply_to s l))
    × Follows (if empty then state else state_after state l) (if empty then s else lines.session_after s l)
same_if true state s is l = (refl, is)
same_if false state s is l = (same_line state s is l, follows_line state s is l)

pub sessions_follow : SessionsFollow
sessions_follow = (λ window. (opened_holds window, refl), λ state s line is. same_if (length line == 0) state s is (line_of line))
