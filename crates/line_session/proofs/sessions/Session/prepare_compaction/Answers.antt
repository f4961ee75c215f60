use Rattle.std.proofs.Common.{◌≡◌, ◌∙◌, ap}
use Rattle.spec_server.specs.Servers.{Server}
use Rattle.line_session.specs.SessionStates.{SessionState}
use Rattle.line_session.proofs.Changes.{compaction_refused}
use Rattle.line_session.proofs.sessions.Session.prepare_compaction.Goals as goal

pub returns-then-present-revision-clause-reply : goal.returns-then-present-revision-clause-reply
returns-then-present-revision-clause-reply c =
    let s = c.args.self.now.server in
    let seen : c.self.inside.server ≡ s = ap (λ (z : SessionState). z.server) c.self.view_is in
    let present : c.revision-present.result ≡ s.snapshot.revision = c.revision-present.ensures.value ∙ ap (λ (t : Server). t.snapshot.revision) seen in
    rw c.unchanged.ensures.text (c.in_ok-refusal_line.ensures ∙ compaction_refused s c.args.revision c.revision-present.result present c.if-present-revision.true)
