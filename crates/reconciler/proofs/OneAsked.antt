-- A request that was asked for a key.
use Rattle.std.proofs.Common.{◌≡◌, [], ◌∷◌, refl, subst}
use Rattle.std.specs.Prelude.{Option, Some, Result, Ok}
use Rattle.spec_api.specs.ObjectRequests as words
use Rattle.http_client.specs.declared.answer.Answer.{Answer}
use Rattle.keyed_board.specs.declared.failure.Failure.{Failure}
use Rattle.keyed_board.specs.declared.outcome.Outcome.{Outcome}
use Rattle.request_parts.specs.Requests.{request_of}
use Rattle.request_parts.specs.declared.request.Request.{Request}
use Rattle.reconciler.specs.Asked.{outcome_of, asked_by, AsksFor}
use Rattle.reconciler.specs.Traces.{Asks}

pub one_asked : {S : Type 0} (answers : S → words.Request → Answer → S → Type 0) (before after : S) (next : Result (Option Request) Failure) (request : Request) (outcome : Outcome)
    → Ok (Some request) ≡ next → (answer : Answer) × answers before (request_of request) answer after × (outcome ≡ outcome_of (request_of request) answer)
    → Asks answers before after (λ trace. AsksFor (asked_by next) trace outcome)
one_asked answers before after next request outcome is (answer, asked, ended) =
    ((request_of request, answer) ∷ [], (after, asked, refl), subst (λ n. AsksFor (asked_by n) ((request_of request, answer) ∷ []) outcome) is (answer, refl, ended))
