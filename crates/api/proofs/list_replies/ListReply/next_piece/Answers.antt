use Rattle.std.proofs.Common.{◌++◌, sym, ap, ◌∙◌}
use Rattle.api.specs.ListReplies.{head_unless}
use Rattle.api.proofs.ListReplies.{head_then_body}
use Rattle.api.proofs.list_replies.ListReply.next_piece.Goals as goal

pub returns-clause-made : goal.returns-clause-made
returns-clause-made c =
    let r = c.self.inside in
    sym c.self.view_is ∙ head_then_body r.begun r.text
    ∙ ap (λ t. t ++ r.text) (sym (c.in_ok-piece.ensures ∙ ap (head_unless r.begun) c.len.ensures))
    ∙ c.in_ok-push_next.ensures.made ∙ ap (λ v. v.items ++ c.push_next.new.self) (sym c.into_bytes.ensures.value)
