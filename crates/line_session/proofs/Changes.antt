-- What a line changes, taken as one effect, is what it makes of a session.
use Rattle.std.proofs.Common.{◌≡◌, ◌<◌, ◌∙◌, ℕ, List, Bool, true, false, cond, Option, Some, None, IfSome, Result, Ok, Err, refl, ap, subst, arith}
use Rattle.std.specs.Prelude.{nat_lt}
use Rattle.std.proofs.lemmas.Bool.{ltb-false}
use Rattle.spec_api.specs.History.{Write, View}
use Rattle.spec_api.specs.ListQueries.{ListOptions, WatchOptions}
use Rattle.spec_api.specs.Lists.{list_answer}
use Rattle.spec_api.specs.ObjectRequests.{Request}
use Rattle.spec_api.specs.Refusals.{Refusal, too_new}
use Rattle.spec_api.specs.Replies.{Reply, outcome, shown, compacted, watch_reply}
use Rattle.spec_api.specs.Streams as streams
use Rattle.spec_api.specs.Targets.{Asked, request, list, watch, read_request}
use Rattle.spec_api.specs.Verbs as verbs
use Rattle.spec_api.specs.Verbs.{refused}
use Rattle.spec_api.specs.Versions.{Listed}
use Rattle.spec_laws.proofs.Limits.{room}
use Rattle.spec_line_protocol.specs.Lines.{Line, ask, at, compact, unreadable, reply_text}
use Rattle.spec_server.specs.Servers.{Server, after_writing, after_compaction, list_by, watch_served, compact_by}
use Rattle.line_session.specs.SessionStates.{SessionState, accepted, reply_for, server_from, server_or, state_after, compact_text, nothing, of_write, written_by, of_compaction, effect_on, changed_by, HasRoom}

-- ---- the session afterwards

made_is : (s : SessionState) (w : Option Write) → changed_by s (of_write w) ≡ record s { server = after_writing s.server w }
made_is s None = refl
made_is s (Some w) = refl

written_is : (s : SessionState) (r : Reply) → changed_by s (of_write (written_by r)) ≡ record s { server = server_from s.server r }
written_is s (outcome o) = made_is s (verbs.write_of o)
written_is s (shown k ls) = refl
written_is s (compacted h) = refl

compacted_is : (s : SessionState) (r : ℕ) → changed_by s (of_compaction r (compact_by s.server r)) ≡ record s { server = server_or s.server (compact_by s.server r) }
compacted_is s r = by_answer (compact_by s.server r) refl
  where
    by_answer : (a : Result Server Refusal) → compact_by s.server r ≡ a → changed_by s (of_compaction r a) ≡ record s { server = server_or s.server a }
    by_answer (Err f) is = refl
    by_answer (Ok t) is = ap (λ a. record s { server = server_or s.server a }) is

pub effects_change : (s : SessionState) (l : Line) → changed_by s (effect_on s l) ≡ state_after s l
effects_change s (ask method target body) = written_is s (reply_for s (read_request method target body))
effects_change s (at t) = refl
effects_change s (compact r) = compacted_is s r
effects_change s unreadable = refl

-- ---- room

listed_room : (s : SessionState) (v : View) (o : ListOptions) (served : Result Listed Refusal) → HasRoom s (of_write (written_by (outcome (list_answer v o served))))
listed_room s v o (Err f) = tt
listed_room s v o (Ok l) = tt

watched_room : (s : SessionState) (v : View) (served : Result (List streams.Line) Refusal) → HasRoom s (of_write (written_by (watch_reply v.kind served)))
watched_room s v (Err f) = tt
watched_room s v (Ok ls) = tt

request_room : (s : SessionState) (q : Request) → HasRoom s (of_write (verbs.write_of (accepted s q)))
request_room s q = by_write (verbs.write_of (accepted s q)) (room q s.server.snapshot.members s.server.snapshot.revision s.moment)
  where
    by_write : (w : Option Write) → IfSome w (λ e. verbs.overflows s.server.snapshot.members s.server.snapshot.revision e ≡ false) → HasRoom s (of_write w)
    by_write None has = tt
    by_write (Some w) has = has

asked_room : (s : SessionState) (a : Result Asked Refusal) → HasRoom s (of_write (written_by (reply_for s a)))
asked_room s (Err f) = tt
asked_room s (Ok (request q)) = request_room s q
asked_room s (Ok (list v o)) = listed_room s v o (list_by s.server v o.at)
asked_room s (Ok (watch v o)) = watched_room s v (watch_served s.server v o)

compaction_room : (s : SessionState) (r : ℕ) (a : Result Server Refusal) → HasRoom s (of_compaction r a)
compaction_room s r (Err f) = tt
compaction_room s r (Ok t) = tt

-- for what a line writes there is room
pub effects_fit : (s : SessionState) (l : Line) → HasRoom s (effect_on s l)
effects_fit s (ask method target body) = asked_room s (read_request method target body)
effects_fit s (at t) = tt
effects_fit s (compact r) = compaction_room s r (compact_by s.server r)
effects_fit s unreadable = tt

-- ---- what writes nothing

pub list_still : (s : SessionState) (v : View) (o : ListOptions) → nothing ≡ of_write (written_by (reply_for s (Ok (list v o))))
list_still s v o = by_answer (list_by s.server v o.at)
  where
    by_answer : (served : Result Listed Refusal) → nothing ≡ of_write (written_by (outcome (list_answer v o served)))
    by_answer (Err f) = refl
    by_answer (Ok l) = refl

pub watch_still : (s : SessionState) (v : View) (o : WatchOptions) → nothing ≡ of_write (written_by (reply_for s (Ok (watch v o))))
watch_still s v o = by_answer (watch_served s.server v o)
  where
    by_answer : (served : Result (List streams.Line) Refusal) → nothing ≡ of_write (written_by (watch_reply v.kind served))
    by_answer (Err f) = refl
    by_answer (Ok ls) = refl

-- a compaction above the present revision is refused
pub compaction_refused : (s : Server) (r p : ℕ) → p ≡ s.snapshot.revision → p < r → reply_text (outcome (refused (too_new r p))) ≡ compact_text (compact_by s r)
compaction_refused s r p is above =
    ap (λ n. reply_text (outcome (refused (too_new r n)))) is ∙ by_test (nat_lt s.snapshot.revision r) refl (subst (λ n. n < r) is above)
  where
    by_test : (b : Bool) → nat_lt s.snapshot.revision r ≡ b → s.snapshot.revision < r
        → reply_text (outcome (refused (too_new r s.snapshot.revision))) ≡ compact_text (cond b (Err (too_new r s.snapshot.revision)) (Ok (after_compaction s r)))
    by_test true is above = refl
    by_test false is above = let least = ltb-false s.snapshot.revision r is in absurd (omega (arith, least, above))
