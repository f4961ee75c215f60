use Rattle.std.proofs.Common.{◌≡◌, ◌∙◌, ap, sym, subst}
use Rattle.spec_line_protocol.specs.Lines.{compact}
use Rattle.line_session.specs.Effects.{effect_of}
use Rattle.line_session.specs.SessionStates.{changed_by, effect_on, HasRoom}
use Rattle.line_session.proofs.Changes.{effects_change, effects_fit}
use Rattle.line_session.specs.RecordedStates.{RecordedState}
use Rattle.line_session.proofs.recorded.RecordedSession.compact.Goals as goal

pub commit-requires : goal.commit-requires
commit-requires c =
    let s = c.args.self.now.session in
    let l = compact c.args.revision in
    let is : effect_of c.in_ok-reply.field-0.effect ≡ effect_on s l = c.in_ok-reply.ensures.effect ∙ ap (λ (z : RecordedState). effect_on z.session l) c.self.view_is in
    subst (HasRoom s) (sym is) (effects_fit s l)
