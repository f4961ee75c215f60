-- What a server that plays a script answers, and what it notes.
use Rattle.std.specs.Prelude.{◌≡◌, ◌⊎◌, ◌++◌, ◌+◌, ℕ, List, [], ◌∷◌, Option, Some, None, Bool, true, false, String, string_bytes, slice_get}
use Rattle.std.specs.Global.{Global}
use Rattle.spec_api.specs.ObjectRequests.{Request}
use Rattle.http_client.specs.declared.answer.Answer.{Answer}
use Rattle.http_client.specs.declared.answer.Answer.TheVariants as answer
use Rattle.request_encoding.specs.Texts.{can_be_told}
use Rattle.request_encoding.specs.Told.{Asks}
use Rattle.request_encoding.specs.declared.text.RequestText.{RequestText}
use Rattle.api_client.specs.Outgoing.{method_text}
use Rattle.scripted_api.specs.declared.scripts.Script.{Script}
use Rattle.scripted_api.specs.declared.scripts.ScriptedAnswer.{ScriptedAnswer}
use Rattle.scripted_api.specs.declared.scripts.ScriptedAnswer.TheVariants as scripted

-- the line of a text by which a request is asked
abbrev pub text_line : RequestText → List ℕ
text_line t = method_text t.method ++ (32 ∷ (string_bytes t.target ++ (32 ∷ string_bytes t.body)))

-- the line of a request, by a text that asks it; what cannot be told over HTTP has none
abbrev pub IsLineOf : Request → Option (String Global) → Type 0
IsLineOf q None = can_be_told q ≡ false
IsLineOf q (Some line) = (t : RequestText) × Asks q t × (string_bytes line ≡ text_line t)

-- what a script says is answered; a reply for which there is no memory is lost
abbrev pub Gives : ScriptedAnswer → Answer → Type 0
Gives (scripted.Replied code body) (answer.Replied r) = (r.code ≡ code) × (r.body.items ≡ body.now)
Gives (scripted.Replied code body) answer.NotSent = ⊥
Gives (scripted.Replied code body) answer.Lost = Unit {0}
Gives scripted.NotSent a = a ≡ answer.NotSent
Gives scripted.Lost a = a ≡ answer.Lost

-- so many answers were given, and now this one, if there is one; after the last nothing comes back
abbrev pub GivesNext : Option ScriptedAnswer → ℕ → Answer → ℕ → Type 0
GivesNext None before a after = (a ≡ answer.Lost) × (after ≡ before)
GivesNext (Some s) before a after = Gives s a × (after ≡ before + 1)

-- a request is noted, and the next answer is given
abbrev pub Notes : Script → Request → Answer → Script → Type 0
Notes before q a after =
    (line : String Global) × IsLineOf q (Some line) × (after.requests.items ≡ before.requests.items ++ line ∷ []) × GivesNext (slice_get before.answers.now before.played) before.played a after.played

-- nothing was noted, and no answer was given
abbrev pub IsAsItWas : Script → Script → Type 0
IsAsItWas before after = (after.requests.items ≡ before.requests.items) × (after.played ≡ before.played)

-- what is asked is noted and answered, or it is not sent; what is answered later stays as it was
abbrev pub Plays : Script → Request → Answer → Script → Type 0
Plays before q a after = (after.answers.now ≡ before.answers.now) × (Notes before q a after ⊎ ((a ≡ answer.NotSent) × IsAsItWas before after))
