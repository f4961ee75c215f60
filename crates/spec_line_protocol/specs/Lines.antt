-- What is written for what is read: request lines to reply lines, one after another.
use Rattle.std.specs.Prelude.{ℕ, List, [], ◌∷◌, ◌++◌, ◌&&◌, ◌==◌, length, Option, Some, None, option_map, codes, decimal, if◌then◌else◌}
use Rattle.std.specs.List.{slice_split}
use Rattle.std.specs.Str.{bytes_eq}
use Rattle.serde_json.specs.Written.{compact_text}
use Rattle.serde_json.specs.Data.{Data}
use Rattle.spec_api.specs.History.{History}
use Rattle.spec_api.specs.Moments.{is_moment}
use Rattle.spec_api.specs.declared.methods.Method.{Method}
use Rattle.spec_api.specs.declared.methods.Method.TheVariants.{Get, Post, Put, Patch, Delete}
use Rattle.spec_api.specs.declared.refusals.Part.TheVariants as part
use Rattle.spec_api.specs.Refusals.{bad_request, success_body}
use Rattle.spec_api.specs.Revisions.{revision_of}
use Rattle.spec_api.specs.Streams.{text_of_lines}
use Rattle.spec_api.specs.Targets.{read_request}
use Rattle.spec_api.specs.Versions.{compacts}
use Rattle.spec_api.specs.Verbs.{refused, outcome_code, outcome_body}
use Rattle.spec_api.specs.Replies.{default_window, Session, start, Reply, outcome, shown, compacted, reply_for, compact_reply, history_from}

-- ---- what a line says

-- a request: a method, a target and a body; a moment, which is the time from then on; a revision up to which what happened is compacted; or anything else
pub data Line : Type 0 where
  ask : Method → List ℕ → List ℕ → Line
  at : List ℕ → Line
  compact : ℕ → Line
  unreadable : Line

-- what stands before and after the first space, if there is one
abbrev pub cut : List ℕ → Option (List ℕ × List ℕ)
cut [] = None
cut (b ∷ bs) = if b == 32 then Some ([], bs) else option_map (λ p. (b ∷ p.0, p.1)) (cut bs)

-- a target is not empty
abbrev pub ask_if : Method → List ℕ → List ℕ → Line
ask_if method target body = if length target == 0 then unreadable else ask method target body

abbrev pub target_alone : Method → List ℕ → Option (List ℕ × List ℕ) → Line
target_alone method rest None = ask_if method rest []
target_alone method rest (Some p) = ask_if method p.0 p.1

abbrev pub target_and_body : Method → Option (List ℕ × List ℕ) → Line
target_and_body method None = unreadable
target_and_body method (Some p) = ask_if method p.0 p.1

abbrev pub compact_at : Option ℕ → Line
compact_at None = unreadable
compact_at (Some r) = compact r

-- `GET` and `DELETE` may come without a body, `POST`, `PUT` and `PATCH` may not
abbrev pub line_from : Option (List ℕ × List ℕ) → Line
line_from None = unreadable
line_from (Some p) =
    if bytes_eq p.0 (codes "GET") then target_alone Get p.1 (cut p.1)
    else
    (if bytes_eq p.0 (codes "DELETE") then target_alone Delete p.1 (cut p.1)
    else
    (if bytes_eq p.0 (codes "POST") then target_and_body Post (cut p.1)
    else
    (if bytes_eq p.0 (codes "PUT") then target_and_body Put (cut p.1)
    else
    (if bytes_eq p.0 (codes "PATCH") then target_and_body Patch (cut p.1)
    else
    (if bytes_eq p.0 (codes "AT") && is_moment p.1 then at p.1
    else (if bytes_eq p.0 (codes "COMPACT") then compact_at (revision_of p.1) else unreadable))))))

abbrev pub line_of : List ℕ → Line
line_of t = line_from (cut t)

-- ---- what is written

-- a line of a code, a space, a body as compact JSON
abbrev pub line_text : ℕ → Data → List ℕ
line_text code body = decimal code ++ (32 ∷ (compact_text body ++ 10 ∷ []))

-- of an outcome its code and its body; of a watch how many lines follow, and these; of a compaction a success
abbrev pub reply_text : Reply → List ℕ
reply_text (outcome o) = line_text (outcome_code o) (outcome_body o)
reply_text (shown k ls) = codes "200 watch " ++ (decimal (length ls) ++ (10 ∷ text_of_lines k ls))
reply_text (compacted more) = line_text 200 (success_body None)

-- ---- a session

abbrev pub reply_to : Session → Line → List ℕ
reply_to s (ask method target body) = reply_text (reply_for s (read_request method target body))
reply_to s (at moment) = []
reply_to s (compact r) = reply_text (compact_reply (compacts s.history r))
reply_to s unreadable = reply_text (outcome (refused (bad_request part.Head)))

abbrev pub session_after : Session → Line → Session
session_after s (ask method target body) = record s { history = history_from s.history (reply_for s (read_request method target body)) }
session_after s (at moment) = record s { moment = moment }
session_after s (compact r) = record s { history = history_from s.history (compact_reply (compacts s.history r)) }
session_after s unreadable = s

-- an empty line is skipped
abbrev pub reply : Session → List ℕ → List ℕ
reply s t = if length t == 0 then [] else reply_to s (line_of t)

abbrev pub next : Session → List ℕ → Session
next s t = if length t == 0 then s else session_after s (line_of t)

-- ---- the whole run

-- the lines of the bytes, without their newlines
abbrev pub lines_of : List ℕ → List (List ℕ)
lines_of bytes = slice_split (λ b. b == 10) bytes

abbrev pub replies : Session → List (List ℕ) → List ℕ
replies s [] = []
replies s (t ∷ ts) = reply s t ++ replies (next s t) ts

abbrev pub after_lines : Session → List (List ℕ) → Session
after_lines s [] = s
after_lines s (t ∷ ts) = after_lines (next s t) ts

-- what has happened once these lines were read; the size of windows makes no difference
abbrev pub history_of : List (List ℕ) → History
history_of ts = (after_lines (start default_window) ts).history

-- all that is written for all that is read, with windows of this size
abbrev pub replay_with : ℕ → List ℕ → List ℕ
replay_with window bytes = replies (start window) (lines_of bytes)

abbrev pub replay : List ℕ → List ℕ
replay bytes = replay_with default_window bytes
