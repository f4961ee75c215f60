-- What is to be written for what is asked.
use Rattle.std.specs.Prelude.{◌≡◌, ◌⊎◌, ℕ, List, Option, Some, None, Result, Ok, Err, string_bytes}
use Rattle.spec_api.specs.ListQueries.{ListOptions}
use Rattle.spec_api.specs.History.{View}
use Rattle.spec_api.specs.ObjectRequests.{Request}
use Rattle.spec_api.specs.Refusals.{Refusal, no_memory}
use Rattle.spec_api.specs.Replies.{outcome}
use Rattle.spec_api.specs.Targets.{Asked, request, list, watch}
use Rattle.spec_api.specs.Verbs.{Outcome, answered, refused}
use Rattle.spec_api.specs.Versions.{Listed}
use Rattle.spec_http.specs.Replies.{response_text, reply_text}
use Rattle.object_keys.specs.Faults.{refusal_of}
use Rattle.object_keys.specs.declared.fault.Fault.{Fault}
use Rattle.reply.specs.declared.reply.Reply as replies
use Rattle.selector.specs.Views.{view_of}
use Rattle.http_watch.specs.Opened.{Refuses, IsOpened}
use Rattle.http_watch.specs.Watches.{Look}
use Rattle.api.specs.declared.response.OpenWatch.{OpenWatch}
use Rattle.api.specs.declared.response.Response.{Response}
use Rattle.api.specs.declared.response.Response.TheVariants as response
use Rattle.api.specs.declared.response.Text.{Text}
use Rattle.api.specs.declared.response.Text.TheVariants as text

-- the bytes of a reply
abbrev pub text_of : Text → List ℕ
text_of (text.Whole bytes) = bytes.items
text_of (text.Parts r) = response_text r.code (string_bytes r.text)
text_of text.OutOfMemory = reply_text (outcome (refused no_memory))

-- the bytes are the reply to an outcome; where there is no memory to say why a request is refused, that
abbrev pub IsReplyTo : Outcome → List ℕ → Type 0
IsReplyTo (answered a) bytes = bytes ≡ reply_text (outcome (answered a))
IsReplyTo (refused f) bytes = (bytes ≡ reply_text (outcome (refused f))) ⊎ (bytes ≡ reply_text (outcome (refused no_memory)))

-- the same of what a server answers
abbrev pub IsReplyOf : Result replies.Reply Fault → List ℕ → Type 0
IsReplyOf (Ok r) bytes = bytes ≡ response_text r.code (string_bytes r.text)
IsReplyOf (Err e) bytes = IsReplyTo (refused (refusal_of e)) bytes

module _ {S : Type 0} (calls : S → Request → List ℕ → Outcome → S → Type 0) (lists : S → View → ListOptions → Outcome → S → Type 0)
    (begins : S → View → Option ℕ → Result Listed Refusal → S → Type 0) (watches : S → View → ℕ → ℕ → Look → S → Type 0) (moment : List ℕ) (s t : S) where
  -- what is asked was done, and these bytes are its reply; a request that is refused before a server is asked changes nothing
  abbrev pub Replies : Result Asked Refusal → List ℕ → Type 0
  Replies (Err f) bytes = (t ≡ s) × IsReplyTo (refused f) bytes
  Replies (Ok (request q)) bytes = (o : Outcome) × calls s q moment o t × IsReplyTo o bytes
  Replies (Ok (list v options)) bytes = (o : Outcome) × lists s v options o t × IsReplyTo o bytes
  Replies (Ok (watch v options)) bytes = (e : Fault) × Refuses begins watches v options.bookmarks s t options.start e × IsReplyTo (refused (refusal_of e)) bytes

  -- a watch is asked for, and has opened
  abbrev pub OpensWatch : Result Asked Refusal → OpenWatch → Type 0
  OpensWatch (Err f) w = ⊥
  OpensWatch (Ok (request q)) w = ⊥
  OpensWatch (Ok (list v options)) w = ⊥
  OpensWatch (Ok (watch v options)) w =
      (view_of w.view ≡ v) × (w.bookmarks ≡ options.bookmarks) × IsOpened begins watches v options.bookmarks options.start s t (Ok w.opened)

  -- a list is asked for, and these bytes are its reply
  abbrev pub RepliesList : Result Asked Refusal → List ℕ → Type 0
  RepliesList (Err f) bytes = ⊥
  RepliesList (Ok (request q)) bytes = ⊥
  RepliesList (Ok (list v options)) bytes = (o : Outcome) × lists s v options o t × IsReplyTo o bytes
  RepliesList (Ok (watch v options)) bytes = ⊥

  -- nothing is to be written where nothing is asked, else a reply, or what a watch opens with
  abbrev pub Responds : Option (Result Asked Refusal) → Response → Type 0
  Responds None response.Nothing = t ≡ s
  Responds None (response.Reply x) = ⊥
  Responds None (response.List l) = ⊥
  Responds None (response.Watch w) = ⊥
  Responds (Some a) response.Nothing = ⊥
  Responds (Some a) (response.Reply x) = Replies a (text_of x)
  Responds (Some a) (response.List l) = RepliesList a l
  Responds (Some a) (response.Watch w) = OpensWatch a w

-- it is no list that is made as it is written
abbrev pub IsMade : Response → Type 0
IsMade response.Nothing = Unit {0}
IsMade (response.Reply x) = Unit {0}
IsMade (response.List l) = ⊥
IsMade (response.Watch w) = Unit {0}
