-- What is true after any lines.
use Rattle.std.proofs.Common.{◌≡◌, ◌≤◌, ℕ, ◌==◌, List, [], ◌∷◌, ◌++◌, length, Bool, true, false, cond, nat_lt, Option, Some, None, Result, Ok, Err, append_assoc, subst, refl, sym, ap, ◌∙◌}
use Rattle.std.proofs.lemmas.Bool.{ltb-false}
use Rattle.spec_api.specs.declared.kinds.Kind.{Kind}
use Rattle.spec_api.specs.ListQueries.{ListOptions, WatchOptions}
use Rattle.spec_api.specs.History.{History, Entry, Write, View, write, compaction, present}
use Rattle.spec_laws.specs.HistoryLaws.{RunsOnlyAdd, WindowsOnlyForget}
use Rattle.spec_api.specs.Replies.{Session, start, outcome, reply_for, watch_reply, compact_reply, history_from}
use Rattle.spec_line_protocol.specs.Lines.{Line, ask, at, compact, unreadable, line_of, session_after, next, after_lines}
use Rattle.spec_api.specs.Lists.{list_answer}
use Rattle.spec_api.specs.Refusals.{Refusal, too_new}
use Rattle.spec_api.specs.Streams as streams
use Rattle.spec_api.specs.Targets.{Asked, request, list, watch, read_request}
use Rattle.spec_api.specs.Verbs.{accept, with_write, write_of}
use Rattle.spec_api.specs.ObjectRequests.{Request}
use Rattle.spec_api.specs.Versions.{Listed, list_for, compacts}
use Rattle.spec_api.specs.WatchReplies.{watch_lines}

-- a list and a watch leave what has happened as it is
kept_list : (h : History) (v : View) (o : ListOptions) (r : Result Listed Refusal) → history_from h (outcome (list_answer v o r)) ≡ h
kept_list h v o (Err f) = refl
kept_list h v o (Ok l) = refl

kept_watch : (h : History) (k : Kind) (r : Result (List streams.Line) Refusal) → history_from h (watch_reply k r) ≡ h
kept_watch h k (Err f) = refl
kept_watch h k (Ok ls) = refl

pub kept_asked : (s : Session) (v : View) (o : ListOptions) → history_from s.history (reply_for s (Ok (list v o))) ≡ s.history
kept_asked s v o = kept_list s.history v o (list_for s.window s.history v o.at)

pub kept_watched : (s : Session) (v : View) (o : WatchOptions) → history_from s.history (reply_for s (Ok (watch v o))) ≡ s.history
kept_watched s v o = kept_watch s.history v.kind (watch_lines s.window s.history v o)

by_compact : (P : History → Type 0) (still : (h : History) (r : ℕ) → r ≤ present h → P h → P (h ++ compaction r ∷ [])) (b : Bool) (h : History) (r : ℕ) → nat_lt (present h) r ≡ b → P h
    → P (history_from h (compact_reply (cond b (Err (too_new r (present h))) (Ok (h ++ compaction r ∷ [])))))
by_compact P still true h r is p = p
by_compact P still false h r is p = still h r (ltb-false (present h) r is) p

-- a property that compactions leave which reach no further than what has happened
pub by_compaction : (P : History → Type 0) (still : (h : History) (r : ℕ) → r ≤ present h → P h → P (h ++ compaction r ∷ [])) (h : History) (r : ℕ) → P h → P (history_from h (compact_reply (compacts h r)))
by_compaction P still h r p = by_compact P still (nat_lt (present h) r) h r refl p

-- a property of histories that a write leaves, and a compaction, is preserved by every line
module _ (P : History → Type 0) (each : (q : Request) (h : History) (moment : List ℕ) → P h → P (with_write h (write_of (accept q h moment)))) (still : (h : History) (r : ℕ) → r ≤ present h → P h → P (h ++ compaction r ∷ [])) where
  by_request : (s : Session) (r : Result Asked Refusal) → P s.history → P (history_from s.history (reply_for s r))
  by_request s (Err f) p = p
  by_request s (Ok (request q)) p = each q s.history s.moment p
  by_request s (Ok (list v o)) p = subst P (sym (kept_asked s v o)) p
  by_request s (Ok (watch v o)) p = subst P (sym (kept_watched s v o)) p

  by_line : (s : Session) (line : Line) → P s.history → P (session_after s line).history
  by_line s (ask method target body) p = by_request s (read_request method target body) p
  by_line s (at moment) p = p
  by_line s (compact r) p = by_compaction P still s.history r p
  by_line s unreadable p = p

  by_text : (b : Bool) (s : Session) (t : List ℕ) → P s.history → P (cond b s (session_after s (line_of t))).history
  by_text true s t p = p
  by_text false s t p = by_line s (line_of t) p

  pub by_lines : (s : Session) (lines : List (List ℕ)) → P s.history → P (after_lines s lines).history
  by_lines s [] p = p
  by_lines s (t ∷ ts) p = by_lines (next s t) ts (by_text (length t == 0) s t p)

abbrev pub Begins : History → History → Type 0
Begins h whole = (more : History) × (whole ≡ h ++ more)

pub nothing : (h : History) → h ≡ h ++ []
nothing [] = refl
nothing (e ∷ h) = ap (λ l. e ∷ l) (nothing h)

pub begins-write : (h whole : History) (w : Option Write) → Begins h whole → Begins h (with_write whole w)
begins-write h whole None b = b
begins-write h whole (Some w) b = (b.0 ++ write w ∷ [], ap (λ l. l ++ write w ∷ []) b.1 ∙ append_assoc h b.0 (write w ∷ []))

pub begins-entry : (h whole : History) (e : Entry) → Begins h whole → Begins h (whole ++ e ∷ [])
begins-entry h whole e b = (b.0 ++ e ∷ [], ap (λ l. l ++ e ∷ []) b.1 ∙ append_assoc h b.0 (e ∷ []))

pub only_add : RunsOnlyAdd
only_add s lines =
    by_lines (Begins s.history) (λ q h moment b. begins-write s.history h (write_of (accept q h moment)) b) (λ h r le b. begins-entry s.history h (compaction r) b) s lines ([], nothing s.history)

-- ---- windows

abbrev Same : Session → Session → Type 0
Same s t = (s.history ≡ t.history) × (s.moment ≡ t.moment)

same_request : (s t : Session) (r : Result Asked Refusal) → Same s t → history_from s.history (reply_for s r) ≡ history_from t.history (reply_for t r)
same_request s t (Err f) is = is.0
same_request s t (Ok (request q)) is = λ i. with_write (is.0 i) (write_of (accept q (is.0 i) (is.1 i)))
same_request s t (Ok (list v o)) is = kept_asked s v o ∙ is.0 ∙ sym (kept_asked t v o)
same_request s t (Ok (watch v o)) is = kept_watched s v o ∙ is.0 ∙ sym (kept_watched t v o)

same_line : (s t : Session) (line : Line) → Same s t → Same (session_after s line) (session_after t line)
same_line s t (ask method target body) is = (same_request s t (read_request method target body) is, is.1)
same_line s t (at moment) is = (is.0, refl)
same_line s t (compact r) is = (ap (λ h. history_from h (compact_reply (compacts h r))) is.0, is.1)
same_line s t unreadable is = is

same_text : (b : Bool) (s t : Session) (text : List ℕ) → Same s t → Same (cond b s (session_after s (line_of text))) (cond b t (session_after t (line_of text)))
same_text true s t text is = is
same_text false s t text is = same_line s t (line_of text) is

same_after : (s t : Session) (lines : List (List ℕ)) → Same s t → (after_lines s lines).history ≡ (after_lines t lines).history
same_after s t [] is = is.0
same_after s t (text ∷ texts) is = same_after (next s text) (next t text) texts (same_text (length text == 0) s t text is)

pub windows_forget : WindowsOnlyForget
windows_forget m n lines = same_after (start m) (start n) lines (refl, refl)
