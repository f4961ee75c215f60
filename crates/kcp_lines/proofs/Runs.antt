-- The replies of a session that has a server, as those of the definitions, as the run of a service.
use Rattle.std.proofs.Common.{◌≡◌, ℕ, List, [], ◌∷◌, ◌++◌, Option, Some, None, IfSome, Result, OnOk, IfErr, refl, ap, sym, ◌∙◌}
use Rattle.std.proofs.lemmas.List.{append-nil}
use Rattle.std.specs.Io.KnownBytes.{Appends}
use Rattle.spec_api.specs.Replies as answers
use Rattle.spec_line_protocol.specs.Lines as lines
use Rattle.line_service.proofs.Alongside.{all-run, some-run}
use Rattle.line_service.proofs.Progress.{want-other, all_left}
use Rattle.line_service.proofs.Splitting.{replies-split}
use Rattle.line_service.specs.Replies as service
use Rattle.line_service.specs.Replies.{none_refused, reply_or_refusal, next_or_same}
use Rattle.line_service.specs.declared.fault.RunFault.{RunFault}
use Rattle.line_service.specs.declared.fault.RunFault.TheVariants as fault
use Rattle.line_session.specs.Refusals.{refusal}
use Rattle.kcp_lines.specs.Replays.{AnswersAll, AnswersSome, RepliesAreReplays}
use Rattle.line_session.proofs.Followed.{sessions_follow}
use Rattle.line_session.specs.Laws.{Follows}
use Rattle.line_session.specs.SessionStates.{SessionState, begun, reply_by_state, next_state}

-- ---- the definitions' session is a service

replies-fold : (s : answers.Session) (ts : List (List ℕ)) → lines.replies s ts ≡ service.replies lines.reply lines.next s ts
replies-fold s [] = refl
replies-fold s (t ∷ ts) = ap (λ r. lines.reply s t ++ r) (replies-fold (lines.next s t) ts)

-- a replay is the run of a session over the lines that a service reads
replay-run : (window : ℕ) (input : List ℕ) → service.replies lines.reply lines.next (answers.start window) (service.lines_of input) ≡ lines.replay_with window input
replay-run window input = sym (replies-fold (answers.start window) (lines.lines_of input) ∙ replies-split lines.reply lines.next (λ s. refl) (answers.start window) input)

none-of : (s : answers.Session) (ts : List (List ℕ)) → service.replies (reply_or_refusal lines.reply refusal) (next_or_same lines.next) s (none_refused ts) ≡ service.replies lines.reply lines.next s ts
none-of s [] = refl
none-of s (t ∷ ts) = ap (λ r. lines.reply s t ++ r) (none-of (lines.next s t) ts)

pub replayed : RepliesAreReplays
replayed window input = none-of (answers.start window) (service.lines_of input) ∙ replay-run window input

-- ---- what is true of a run of a session that has a server is true of a replay

pub all-replayed : {X E : Type 0} (r : Result X E) (window : ℕ) (state last : SessionState) → state ≡ begun window → (input old new : Option (List ℕ))
    → OnOk r (IfSome input (service.AnswersAll reply_by_state next_state refusal state last old new)) → OnOk r (IfSome input (AnswersAll window old new))
all-replayed r window state last is input old new h =
    all-run reply_by_state next_state lines.reply lines.next refusal Follows sessions_follow.1 r state (begun window) last (answers.start window) is (sessions_follow.0 window) input old new h

pub some-replayed : {X : Type 0} (r : Result X RunFault) (window : ℕ) (state last : SessionState) → state ≡ begun window → (input old new : Option (List ℕ))
    → IfErr r (λ why. IfSome input (service.AnswersSome reply_by_state next_state refusal why state last old new)) → IfErr r (λ why. IfSome input (AnswersSome window why old new))
some-replayed r window state last is input old new h =
    some-run reply_by_state next_state lines.reply lines.next refusal Follows sessions_follow.1 r state (begun window) last (answers.start window) is (sessions_follow.0 window) input old new h

-- ---- a replay that has no memory to begin has answered no line

nothing : (old : Option (List ℕ)) → Appends old old []
nothing None = tt
nothing (Some xs) = sym (append-nil xs)

pub none-answered : (window : ℕ) (input old : Option (List ℕ)) → IfSome input (AnswersSome window fault.Want old old)
none-answered window None old = tt
none-answered window (Some input) old =
    let left = none_refused (service.lines_of input) in (
      answers.start window,
      (left, all_left refusal input, ([], left, refl, refl, ([], [], nothing old, refl), λ _. nothing old, λ e. absurd (want-other e))),
    )
