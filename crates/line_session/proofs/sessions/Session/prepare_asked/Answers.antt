use Rattle.std.proofs.Common.{◌∙◌, ap, sym, Ok}
use Rattle.request_decoding.specs.Asked.{asked_seen}
use Rattle.request_parts.specs.Collected.{list_seen, watch_seen}
use Rattle.selector.specs.Views.{view_of}
use Rattle.line_session.specs.SessionStates.{reply_for, of_write, written_by}
use Rattle.line_session.proofs.Changes.{list_still, watch_still}
use Rattle.line_session.proofs.sessions.Session.prepare_asked.Goals as goal

pub returns-in_ok-list-in-Ok-List-clause-effect : goal.returns-in_ok-list-in-Ok-List-clause-effect
returns-in_ok-list-in-Ok-List-clause-effect c =
    let s = c.args.self.now in
    rw c.unchanged.ensures.effect
    (list_still s (view_of c.in-Ok-List.view) (list_seen c.in-Ok-List.options) ∙ ap (λ a. of_write (written_by (reply_for s a))) (sym (c.in-Ok-List.ensures ∙ ap (λ a. Ok (asked_seen a)) c.in-Ok-List.field-0-is)))

pub returns-in_ok-show-in-Ok-Watch-clause-effect : goal.returns-in_ok-show-in-Ok-Watch-clause-effect
returns-in_ok-show-in-Ok-Watch-clause-effect c =
    let s = c.args.self.now in
    rw c.unchanged-in-Ok-Watch.ensures.effect
    (watch_still s (view_of c.in-Ok-Watch.view) (watch_seen c.in-Ok-Watch.options) ∙ ap (λ a. of_write (written_by (reply_for s a))) (sym (c.in-Ok-Watch.ensures ∙ ap (λ a. Ok (asked_seen a)) c.in-Ok-Watch.field-0-is)))
