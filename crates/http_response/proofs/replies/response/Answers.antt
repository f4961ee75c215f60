use Rattle.std.proofs.Common.{◌++◌, ap₂, ◌∙◌}
use Rattle.spec_http.specs.Replies.{head_text}
use Rattle.http_response.proofs.replies.response.Goals as goal

pub returns : goal.returns
returns c =
    c.in_ok-extend_from_slice.ensures.items
    ∙ ap₂ (λ h b. h ++ b)
    (c.in_ok-push_head.ensures ∙ ap₂ (λ e f. e ++ head_text c.args.code f) c.in_ok-text.ensures.items (c.as_str.ensures.value ∙ c.in_ok-framing.ensures.ok))
    c.as_bytes.ensures.value
