-- What is asked of a server for a key, and how that ends.
use Rattle.std.specs.Prelude.{◌≡◌, ◌⊎◌, ◌==◌, ◌&&◌, ◌||◌, ℕ, [], ◌∷◌, Bool, true, false, Option, Some, None, Result, Ok, Err, option_map, unwrap_or, if◌then◌else◌, nat_le, nat_lt}
use Rattle.serde_json.specs.Data.{Data}
use Rattle.spec_api.specs.ObjectRequests as words
use Rattle.spec_api.specs.Keys.{Key}
use Rattle.spec_api.specs.Metadata.{uid}
use Rattle.http_client.specs.declared.answer.Answer.{Answer}
use Rattle.http_client.specs.declared.answer.Answer.TheVariants.{Replied, NotSent, Lost}
use Rattle.keyed_board.specs.declared.failure.Failure.{Failure}
use Rattle.keyed_board.specs.declared.failure.Failure.TheVariants.{Refused, NoReply, NoMemory}
use Rattle.keyed_board.specs.declared.outcome.Outcome.{Outcome}
use Rattle.keyed_board.specs.declared.outcome.Outcome.TheVariants.{Done, Failed}
use Rattle.request_parts.specs.Requests.{request_of}
use Rattle.request_parts.specs.declared.request.Request.{Request}
use Rattle.reconciler.specs.Traces.{Trace}

abbrev pub is_delete : words.Request → Bool
is_delete (words.delete_object k o) = true
is_delete request = false

-- a reply from 200 to 299 says that it was done; and one that there is no such object, where that was to be deleted, that it is gone
abbrev pub is_done : words.Request → ℕ → Bool
is_done request code = (nat_le 200 code && nat_lt code 300) || (code == 404) && is_delete request

-- else it failed: the server refused it, or nothing came back
abbrev pub outcome_of : words.Request → Answer → Outcome
outcome_of request (Replied reply) = if is_done request reply.code then Done else Failed (Refused reply.code reply.retry_after)
outcome_of request NotSent = Failed NoReply
outcome_of request Lost = Failed NoReply

-- what is to be asked, as the definitions say it
abbrev pub asked_by : Result (Option Request) Failure → Result (Option words.Request) Failure
asked_by (Ok next) = Ok (option_map request_of next)
asked_by (Err failure) = Err failure

-- What was asked for a key, by what was to be asked, and how that ended: a request was asked, and its answer says how it went; or there was none, and all
-- is done; or it is known why there is none, and that failed. Where there is none, nothing was asked.
abbrev pub AsksFor : Result (Option words.Request) Failure → Trace → Outcome → Type 0
AsksFor (Ok None) trace outcome = (trace ≡ []) × (outcome ≡ Done)
AsksFor (Ok (Some request)) trace outcome = (answer : Answer) × (trace ≡ (request, answer) ∷ []) × (outcome ≡ outcome_of request answer)
AsksFor (Err failure) trace outcome = (trace ≡ []) × (outcome ≡ Failed failure)

-- what was to be asked was asked; or memory ran out, and nothing was
abbrev pub AsksUnlessMemoryEnds : Result (Option words.Request) Failure → Trace → Outcome → Type 0
AsksUnlessMemoryEnds wanted trace outcome = AsksFor wanted trace outcome ⊎ AsksFor (Err NoMemory) trace outcome

-- an object is deleted, and no other that is called so: where it says no uid, none
abbrev pub deletes : Key → Data → words.Request
deletes k d = words.delete_object k (record { uid = Some (unwrap_or (uid d) []); version = None; policy = None })
