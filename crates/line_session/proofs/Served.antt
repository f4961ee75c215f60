-- What a served request says of its outcome, and what initial events say of the lines of a stream.
use Rattle.std.proofs.Common.{◌≡◌, ◌≢◌, ◌∙◌, ◌⊎◌, inl, inr, ℕ, Bool, List, [], ◌∷◌, ◌++◌, Option, Some, None, Result, Ok, Err, IfOk, decimal, option_map, string_bytes, ap, ap₂, sym}
use Rattle.verb_parts.specs.Serves.{Serves}
use Rattle.spec_api.specs.declared.versions.Start.TheVariants.{Streamed}
use Rattle.spec_api.specs.History.{View, Entries, viewed}
use Rattle.spec_api.specs.Replies.{outcome, shown, watch_reply}
use Rattle.spec_api.specs.Streams.{Line}
use Rattle.spec_api.specs.Versions.{once_present}
use Rattle.spec_api.specs.WatchReplies.{opening_lines}
use Rattle.spec_line_protocol.specs.Lines.{reply_text}
use Rattle.spec_api.specs.Verbs as verbs
use Rattle.spec_api.specs.Verbs.{Outcome, answered, refused}
use Rattle.server.proofs.Begun.{served_once, refused_once}
use Rattle.server.specs.Initials.{initial_of}
use Rattle.server.specs.Replies.{Lists}
use Rattle.server.specs.declared.initials.InitialEvents.{InitialEvents}
use Rattle.object_keys.specs.Faults.{refusal_of}
use Rattle.object_keys.specs.declared.fault.Fault.{Fault}
use Rattle.object_keys.specs.declared.fault.Fault.TheVariants as fault
use Rattle.meta.specs.Writes.{write_of}
use Rattle.meta.specs.declared.writes.Write.{Write}
use Rattle.reply.specs.declared.reply.Reply.{Reply}
use Rattle.spec_server.specs.Servers.{Server, initial_by, watch_served}
use Rattle.watch_cache.specs.Served.{Serves as Serving}

pub served-write : (o : Outcome) (r : Reply) (w : Option Write) → Serves o (Ok (r, w)) → option_map write_of w ≡ verbs.write_of o
served-write (answered a) r w is = is.write
served-write (refused f) r w is = absurd is

pub served-text : (o : Outcome) (r : Reply) (w : Option Write) → Serves o (Ok (r, w)) → decimal r.code ++ (32 ∷ (string_bytes r.text ++ 10 ∷ [])) ≡ reply_text (outcome o)
served-text (answered a) r w is = ap₂ (λ code text. decimal code ++ (32 ∷ (text ++ 10 ∷ []))) (sym is.code) is.text
served-text (refused f) r w is = absurd is

-- the line of a list that is refused
pub list-refused : {X M : Type 0} (o : Outcome) (e : Fault) (text : X → List ℕ) (line : Result X M) → Lists o (Err e) → IfOk line (λ l. text l ≡ reply_text (outcome (refused (refusal_of e))))
    → IfOk line (λ l. e ≢ fault.NoMemory) → IfOk line (λ l. text l ≡ reply_text (outcome o))
list-refused o e text (Err m) is same wants = same
list-refused (answered a) e text (Ok l) is same wants = absurd (wants is)
list-refused (refused f) e text (Ok l) is same wants = same ∙ ap (λ g. reply_text (outcome (refused g))) (sym is)

-- ---- initial events

-- the lines of a stream whose initial events are given
pub stream-given : (s : Server) (v : View) (bookmarks : Bool) (least : Option ℕ) (i : InitialEvents) → Serving initial_of (initial_by s v least) (Ok i) → i.objects ≡ viewed v s.snapshot.members → i.revision ≡ s.snapshot.revision
    → reply_text (shown v.kind (opening_lines bookmarks i.revision i.objects)) ≡ reply_text (watch_reply v.kind (watch_served s v (record { start = Streamed least; bookmarks = bookmarks })))
stream-given s v bookmarks None i is members revision = ap₂ (λ r ms. reply_text (shown v.kind (opening_lines bookmarks r ms))) revision members
stream-given s v bookmarks (Some r) i is members revision =
    let ms = viewed v s.snapshot.members in
    ap₂ (λ n es. reply_text (shown v.kind (opening_lines bookmarks n es))) revision members
    ∙ ap (λ ls. reply_text (watch_reply v.kind ls)) (sym (served_once s.snapshot.revision r ms i (opening_lines bookmarks s.snapshot.revision ms) is))

-- a text that is this one is also what this one is
pub as-given : {X M : Type 0} (text : X → List ℕ) (line : Result X M) (a b : List ℕ) → a ≡ b → IfOk line (λ l. text l ≡ a) → IfOk line (λ l. text l ≡ b)
as-given text (Ok l) a b same is = is ∙ same
as-given text (Err m) a b same is = is

-- the line where they are refused
pub stream-refused : {X M : Type 0} (s : Server) (v : View) (bookmarks : Bool) (least : Option ℕ) (e : Fault) (text : X → List ℕ) (line : Result X M) → Serving initial_of (initial_by s v least) (Err e)
    → IfOk line (λ l. text l ≡ reply_text (outcome (refused (refusal_of e)))) → IfOk line (λ l. e ≢ fault.NoMemory)
    → IfOk line (λ l. text l ≡ reply_text (watch_reply v.kind (watch_served s v (record { start = Streamed least; bookmarks = bookmarks }))))
stream-refused s v bookmarks least e text (Err m) is same wants = same
stream-refused s v bookmarks None e text (Ok l) is same wants = absurd (wants is)
stream-refused s v bookmarks (Some r) e text (Ok l) is same wants = by (refused_once s.snapshot.revision r ms e lines is)
  where
    ms : Entries
    ms = viewed v s.snapshot.members

    lines : List Line
    lines = opening_lines bookmarks s.snapshot.revision ms

    by : (once_present s.snapshot.revision r lines ≡ Err (refusal_of e)) ⊎ (e ≡ fault.NoMemory) → text l ≡ reply_text (watch_reply v.kind (once_present s.snapshot.revision r lines))
    by (inl above) = same ∙ ap (λ ls. reply_text (watch_reply v.kind ls)) (sym above)
    by (inr none) = absurd (wants none)
