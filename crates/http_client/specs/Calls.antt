-- What becomes of a request.
use Rattle.std.specs.Prelude.{◌≡◌, ◌≤◌, ◌⊎◌, ℕ, List, length, Option, true, false}
use Rattle.std.specs.Io.KnownBytes.{Appends}
use Rattle.chunked.specs.Devices.{AppendsBeginning, device_of, has_failed}
use Rattle.chunked.specs.declared.watched.Watched.{Watched}
use Rattle.spec_http.specs.Requests.{request_text}
use Rattle.http_client.specs.Reading.{IfKnown}
use Rattle.http_client.specs.Replies.{replied, SaysWhole}
use Rattle.http_client.specs.Patience.{AsksPatience}
use Rattle.http_client.specs.declared.answer.Answer.{Answer}
use Rattle.http_client.specs.declared.answer.Answer.TheVariants as answer
use Rattle.http_client.specs.declared.outgoing.Outgoing.{Outgoing}

-- the text of a request
abbrev pub text_of : Outgoing → List ℕ
text_of o = request_text o.method.now o.target.now o.host.now o.media_type.now o.body.now

-- the whole text was written to a writer that has not failed; or it has failed, and a beginning of the text was
abbrev pub IsWritten : {W : Type 0} → (W → Option (List ℕ)) → List ℕ → Watched W → Watched W → Type 0
IsWritten contents text old new = (has_failed new ≡ false) × Appends (contents (device_of old)) (contents (device_of new)) text

abbrev pub IsBegun : {W : Type 0} → (W → Option (List ℕ)) → List ℕ → Watched W → Watched W → Type 0
IsBegun contents text old new = (has_failed new ≡ true) × AppendsBeginning (contents (device_of old)) (contents (device_of new)) text

-- the whole text was written, and the bytes that came then say this reply, whose body is no longer than this, and ask for as much patience; or the reply
-- is lost, after the whole text was written or as the writer failed
abbrev pub IsExchanged : {W : Type 0} → (W → Option (List ℕ)) → List ℕ → ℕ → Option (List ℕ) → Watched W → Watched W → Answer → Type 0
IsExchanged contents text most unread old new (answer.Replied r) =
    IsWritten contents text old new × (length r.body.items ≤ most) × IfKnown unread (λ bytes. SaysWhole bytes (replied r)) × IfKnown unread (λ bytes. AsksPatience bytes r.retry_after)
IsExchanged contents text most unread old new answer.NotSent = ⊥
IsExchanged contents text most unread old new answer.Lost = IsWritten contents text old new ⊎ IsBegun contents text old new

-- the same, or nothing was written
abbrev pub IsAnswered : {W : Type 0} → (W → Option (List ℕ)) → List ℕ → ℕ → Option (List ℕ) → Watched W → Watched W → Answer → Type 0
IsAnswered contents text most unread old new answer.NotSent = new ≡ old
IsAnswered contents text most unread old new (answer.Replied r) = IsExchanged contents text most unread old new (answer.Replied r)
IsAnswered contents text most unread old new answer.Lost = IsExchanged contents text most unread old new answer.Lost
