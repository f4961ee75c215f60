use Rattle.std.proofs.Common.{◌∙◌, ap, sym, subst}
use Rattle.spec_line_protocol.specs.Lines.{line_of}
use Rattle.line_session.specs.SessionStates.{changed_by, HasRoom}
use Rattle.line_session.proofs.Changes.{effects_change, effects_fit}
use Rattle.line_session.proofs.sessions.Session.serve_text.Goals as goal

pub commit-requires : goal.commit-requires
commit-requires c = subst (HasRoom c.args.self.now) (sym c.in_ok-reply.ensures.effect) (effects_fit c.args.self.now (line_of c.args.text.now))

pub returns-clause-state : goal.returns-clause-state
returns-clause-state c =
    c.in_ok-commit.ensures.ok ∙ ap (changed_by c.args.self.now) c.in_ok-reply.ensures.effect ∙ effects_change c.args.self.now (line_of c.args.text.now)
