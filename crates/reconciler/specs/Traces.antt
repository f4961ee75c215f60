-- What a reconcile asked of a server, and what it was answered.
use Rattle.std.specs.Prelude.{◌≡◌, List, [], ◌∷◌, ◌++◌, Bool, true, false, ⊤}
use Rattle.spec_api.specs.ObjectRequests as words
use Rattle.http_client.specs.declared.answer.Answer.{Answer}

-- requests of one object, in their order, each with its answer
abbrev pub Trace : Type 0
Trace = List (words.Request × Answer)

-- these were asked and answered, one after another, from one state of a server to another; where none was, it is as it was
abbrev pub AreAsked : {S : Type 0} → (S → words.Request → Answer → S → Type 0) → S → Trace → S → Type 0
AreAsked answers before [] after = after ≡ before
AreAsked {S = S} answers before (e ∷ es) after = (next : S) × answers before e.0 e.1 next × AreAsked answers next es after

-- something was asked and answered of which this is so, and nothing else was
abbrev pub Asks : {S : Type 0} → (S → words.Request → Answer → S → Type 0) → S → S → (Trace → Type 0) → Type 0
Asks answers before after So = (trace : Trace) × AreAsked answers before trace after × So trace

-- where a controller says what its reconciles ask, one asked that and nothing else; where it does not, one may ask what it will
abbrev pub Acts : {S K Shown Ends : Type 0} → Bool → (K → Shown → Trace → Ends → Type 0) → (S → words.Request → Answer → S → Type 0) → K → Shown → S → S → Ends → Type 0
Acts false says answers key shown before after outcome = ⊤
Acts true says answers key shown before after outcome = Asks answers before after (λ trace. says key shown trace outcome)

-- two traces, the second of which begins where the first ends, are one
abbrev pub TracesJoin : {S : Type 0} → (S → words.Request → Answer → S → Type 0) → Type 0
TracesJoin {S = S} answers = (first later : Trace) (before next after : S) → AreAsked answers before first next → AreAsked answers next later after → AreAsked answers before (first ++ later) after
