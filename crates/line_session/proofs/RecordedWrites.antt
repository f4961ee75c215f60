-- What a session changes is what is added to all that has happened.
use Rattle.std.proofs.Common.{◌≡◌, ℕ, List, [], ◌∷◌, ◌++◌, Bool, true, false, cond, Option, Some, None, Result, Ok, Err, refl, sym, ap, subst, ◌∙◌}
use Rattle.std.specs.Prelude.{nat_lt}
use Rattle.spec_api.specs.declared.kinds.Kind.{Kind}
use Rattle.spec_api.specs.History as history
use Rattle.spec_api.specs.History.{History, View, write, compaction, present}
use Rattle.spec_api.specs.ListQueries.{ListOptions}
use Rattle.spec_api.specs.Lists.{list_answer}
use Rattle.spec_api.specs.Refusals.{Refusal, too_new}
use Rattle.spec_api.specs.Replies as answers
use Rattle.spec_api.specs.Replies.{Session, outcome, watch_reply, compact_reply, history_from}
use Rattle.spec_api.specs.Streams as streams
use Rattle.spec_api.specs.Targets.{Asked, request, list, watch, read_request}
use Rattle.spec_api.specs.Verbs.{accept, write_of, with_write}
use Rattle.spec_api.specs.Versions.{Listed, list_for}
use Rattle.spec_api.specs.WatchReplies.{watch_lines}
use Rattle.spec_line_protocol.specs.Lines.{Line, ask, at, compact, unreadable, session_after}
use Rattle.spec_server.specs.Servers.{Server, after_compaction, list_by, watch_served}
use Rattle.line_session.proofs.Followed.{same_outcome}
use Rattle.line_session.specs.Laws.{Follows}
use Rattle.line_session.specs.SessionStates.{SessionState, reply_for, of_write, written_by, of_compaction}
use Rattle.line_session.specs.RecordedStates.{entry_in, with_entry, journal_after}

-- ---- what is asked

-- what a reply writes, as the journal has it
abbrev recorded : History → answers.Reply → History
recorded j r = with_entry j (entry_in (of_write (written_by r)))

-- what is written is added as a write
pub made : (j : History) (w : Option history.Write) → with_entry j (entry_in (of_write w)) ≡ with_write j w
made j None = refl
made j (Some w) = refl

listed : (v : View) (o : ListOptions) (h : History) (served found : Result Listed Refusal)
    → recorded h (outcome (list_answer v o served)) ≡ history_from h (outcome (list_answer v o found))
listed v o h (Err f) (Err g) = refl
listed v o h (Err f) (Ok l) = refl
listed v o h (Ok l) (Err g) = refl
listed v o h (Ok l) (Ok m) = refl

watched : (k : Kind) (h : History) (served found : Result (List streams.Line) Refusal) → recorded h (watch_reply k served) ≡ history_from h (watch_reply k found)
watched k h (Err f) (Err g) = refl
watched k h (Err f) (Ok ls) = refl
watched k h (Ok ls) (Err g) = refl
watched k h (Ok ls) (Ok ms) = refl

asked : (state : SessionState) (s : Session) → Follows state s → (a : Result Asked Refusal)
    → recorded s.history (reply_for state a) ≡ history_from s.history (answers.reply_for s a)
asked state s is (Err f) = refl
asked state s is (Ok (request q)) =
    ap (λ o. recorded s.history (outcome o)) (same_outcome state s is q) ∙ made s.history (write_of (accept q s.history s.moment))
asked state s is (Ok (list v o)) = listed v o s.history (list_by state.server v o.at) (list_for s.window s.history v o.at)
asked state s is (Ok (watch v o)) = watched v.kind s.history (watch_served state.server v o) (watch_lines s.window s.history v o)

-- ---- compactions

-- one that is refused is not among what has happened, and any other is its last entry
compacted_by : (b : Bool) (h : History) (r now : ℕ) (t : Server)
    → with_entry h (entry_in (of_compaction r (cond b (Err (too_new r now)) (Ok t)))) ≡ history_from h (compact_reply (cond b (Err (too_new r now)) (Ok (h ++ compaction r ∷ []))))
compacted_by true h r now t = refl
compacted_by false h r now t = refl

compacted : (state : SessionState) (s : Session) (r : ℕ) → Follows state s → journal_after state s.history (compact r) ≡ (session_after s (compact r)).history
compacted state s r is =
    ap (λ now. with_entry s.history (entry_in (of_compaction r (cond (nat_lt now r) (Err (too_new r now)) (Ok (after_compaction state.server r)))))) (ap (λ z. z.revision) is.0.0)
    ∙ compacted_by (nat_lt (present s.history) r) s.history r (present s.history) (after_compaction state.server r)

-- ---- lines

-- whatever line it is, the journal is what has happened
pub line_recorded : (j : History) (state : SessionState) (s : Session) (l : Line) → Follows state s → j ≡ s.history
    → journal_after state j l ≡ (session_after s l).history
line_recorded j state s l is same = ap (λ h. journal_after state h l) same ∙ line state s l is
  where
    line : (state : SessionState) (s : Session) (l : Line) → Follows state s → journal_after state s.history l ≡ (session_after s l).history
    line state s (ask method target body) is = asked state s is (read_request method target body)
    line state s (at t) is = refl
    line state s (compact r) is = compacted state s r is
    line state s unreadable is = refl
