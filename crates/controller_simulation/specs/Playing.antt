-- What a reconcile that is run once more is answered.
use Rattle.std.specs.Prelude.{ℕ, ◌≡◌, ◌⊎◌, ◌+◌, ◌++◌, codes, Some, None, Bool, true, false, String, string_bytes, slice_get, ⊤}
use Rattle.std.specs.Global.{Global}
use Rattle.std.specs.Str.{bytes_eq}
use Rattle.spec_api.specs.ObjectRequests.{Request}
use Rattle.spec_api.specs.declared.kinds.Kind.{Kind}
use Rattle.api_client.specs.Exchanges as exchange
use Rattle.http_client.specs.declared.answer.Answer.{Answer}
use Rattle.request_encoding.specs.Scopes.{everything}
use Rattle.request_encoding.specs.Targets.{list_target, page_target}
use Rattle.request_encoding.specs.Texts.{can_be_told}
use Rattle.scripted_api.specs.Played.{IsLineOf}
use Rattle.controller_simulation.specs.Answers.{came_of, not_sent}
use Rattle.controller_simulation.specs.declared.past.PastRequest.{PastRequest}
use Rattle.controller_simulation.specs.declared.playback.Playback.{Playback}
use Rattle.controller_simulation.specs.declared.playback.Reached.{Reached}
use Rattle.controller_simulation.specs.declared.playback.Reached.TheVariants.{Repeating, Asks, Differs, NoMemory}

-- ---- what is asked, as lines

-- a text is the line by which a request is asked; a request that cannot be told over HTTP has none
abbrev pub LineOf : Request → String Global → Type 0
LineOf q line = IsLineOf q (Some line)

-- a text is the line by which a list of a kind is asked
abbrev pub ListLine : Kind → String Global → Type 0
ListLine k line = string_bytes line ≡ codes "GET " ++ list_target everything k

-- a text is the line by which the first object of a kind is asked, as it was at a revision
abbrev pub PageLine : Kind → ℕ → String Global → Type 0
PageLine k r line = string_bytes line ≡ codes "GET " ++ page_target everything k 1 r

-- ---- what is answered

-- nothing was asked yet but what was noted
abbrev pub is_repeating : Reached → Bool
is_repeating Repeating = true
is_repeating (Asks line) = false
is_repeating Differs = false
is_repeating NoMemory = false

-- it is the request that was noted next, and what came of it then comes again
pub record Repeats (Line : String Global → Type 0) (before : Playback) (came : Answer) (after : Playback) : Type 0 where
  pub note : PastRequest
  pub next : slice_get before.past.now before.played ≡ Some note
  pub asked : Line note.line
  pub came_again : came_of came ≡ came_of note.answer
  pub played : after.played ≡ before.played + 1
  pub goes_on : is_repeating after.reached ≡ true

-- how far a reconcile came that asks what is not repeated: no further, where that has no line; to the end of what was noted, and this is what it asks
-- next; to where it differs from what was noted; or to where memory ran out
abbrev pub Stops : (String Global → Type 0) → Type 0 → Playback → Reached → Type 0
Stops Line NoLine p Repeating = NoLine
Stops Line NoLine p (Asks line) = Line line × (slice_get p.past.now p.played ≡ None)
Stops Line NoLine p Differs = (line : String Global) × (note : PastRequest) × Line line × (slice_get p.past.now p.played ≡ Some note) × (bytes_eq (string_bytes note.line) (string_bytes line) ≡ false)
Stops Line NoLine p NoMemory = ⊤

-- it is not sent
abbrev pub IsNotSent : (String Global → Type 0) → Type 0 → Playback → Answer → Playback → Type 0
IsNotSent Line NoLine before came after = (came_of came ≡ not_sent) × (after.played ≡ before.played) × Stops Line NoLine before after.reached

-- what is answered: once something was asked that was not noted, nothing is sent any more
pub record Plays (Line : String Global → Type 0) (NoLine : Type 0) (before : Playback) (came : Answer) (after : Playback) : Type 0 where
  pub same : after.past.now ≡ before.past.now
  pub plays : is_repeating before.reached ≡ true → Repeats Line before came after ⊎ IsNotSent Line NoLine before came after
  pub over : is_repeating before.reached ≡ false → (came_of came ≡ not_sent) × (after.reached ≡ before.reached)

-- what a request of one object is answered
abbrev pub Answers : Playback → Request → Answer → Playback → Type 0
Answers before q came after = Plays (LineOf q) (can_be_told q ≡ false) before came after

-- and the list of a kind
abbrev pub Lists : Playback → Kind → Answer → Playback → Type 0
Lists before k came after = Plays (ListLine k) ⊥ before came after

-- and the first object of the list of a kind
abbrev pub Firsts : Playback → Kind → ℕ → Answer → Playback → Type 0
Firsts before k r came after = Plays (PageLine k r) ⊥ before came after

-- a reconcile follows nothing, and nothing is noted of what is understood
abbrev pub Exchanges : Playback → exchange.Exchange → Playback → Type 0
Exchanges before (exchange.list k came) after = Lists before k came after
Exchanges before (exchange.first k r came) after = Firsts before k r came after
Exchanges before (exchange.watch k r _) after = after ≡ before
Exchanges before (exchange.stream k _) after = after ≡ before
Exchanges before (exchange.read more buffer) after = after ≡ before
Exchanges before exchange.understood after = after ≡ before
Exchanges before (exchange.not_understood bytes) after = after ≡ before

-- a text is this one
abbrev pub Is : String Global → String Global → Type 0
Is line other = bytes_eq (string_bytes other) (string_bytes line) ≡ true
