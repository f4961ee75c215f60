use Rattle.std.proofs.Common.{◌∙◌, ℕ, List, slice_get, inl, subst}
use Rattle.scripted_api.specs.Played.{GivesNext, IsLineOf}
use Rattle.request_parts.specs.Requests.{request_of}
use Rattle.scripted_api.specs.declared.scripts.ScriptedAnswer.{ScriptedAnswer}
use Rattle.scripted_api.proofs.scripts.ScriptApi.call.Goals as goal

pub returns-in-Ok : goal.returns-in-Ok
returns-in-Ok c =
    let line = subst (IsLineOf (request_of c.args.request.now)) c.in-Ok-Some.field-0-is c.in-Ok-Some.ensures in
    let before = c.args.self.now in
    let noted = c.note.new.self in
    let a = c.give.result in
    let m = c.give.new.self.played in
    let gives =
    subst (λ (n : ℕ). GivesNext (slice_get before.answers.now n) n a m) c.in-Ok.ensures.answers.1
    (subst (λ (l : List ScriptedAnswer). GivesNext (slice_get l noted.played) noted.played a m) c.in-Ok.ensures.answers.0 c.give.ensures.gives) in
    (c.give.ensures.answers ∙ c.in-Ok.ensures.answers.0, inl (c.in-Ok-Some.line, line, c.give.ensures.requests ∙ c.in-Ok.ensures.noted, gives))
