use Rattle.std.proofs.Common.{nat_lt, length, true, sym, ap, ◌∙◌}
use Rattle.api.specs.ListReplies.{reply_left}
use Rattle.api.proofs.ListReplies.{reply_some}
use Rattle.api.proofs.list_replies.ListReply.has_more.Goals as goal

pub returns-else-self : goal.returns-else-self
returns-else-self c =
    let r = c.self.inside in
    reply_some r.text ∙ ap (λ b. nat_lt 0 (length (reply_left b r.text))) (sym c.if-self.false) ∙ ap (λ v. nat_lt 0 (length v)) c.self.view_is
