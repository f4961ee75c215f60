-- Traces, one after another.
use Rattle.std.proofs.Common.{◌≡◌, List, [], ◌∷◌, ◌++◌, subst}
use Rattle.spec_api.specs.ObjectRequests as words
use Rattle.http_client.specs.declared.answer.Answer.{Answer}
use Rattle.reconciler.specs.Traces.{Trace, AreAsked, TracesJoin}

pub traces_join : {S : Type 0} (answers : S → words.Request → Answer → S → Type 0) → TracesJoin answers
traces_join answers [] later before next after none rest = subst (λ s. AreAsked answers s later after) none rest
traces_join answers (e ∷ es) later before next after (step, asked, more) rest = (step, asked, traces_join answers es later step next after more rest)
