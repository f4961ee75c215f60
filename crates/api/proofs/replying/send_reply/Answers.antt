use Rattle.std.proofs.Common.{◌≡◌, Ok, ap, sym, subst, ◌∙◌}
use Rattle.spec_http.specs.Replies.{response_text}
use Rattle.api.proofs.Written.{sent}
use Rattle.api.specs.Replying.{Sends}
use Rattle.api.specs.Responding.{text_of}
use Rattle.api.proofs.replying.send_reply.Goals as goal

pub returns-in-Ok-send_response : goal.returns-in-Ok-send_response
returns-in-Ok-send_response g c =
    let whole : response_text c.in-Parts.reply.code c.as_str.result.now ≡ text_of c.args.text.now = ap (response_text c.in-Parts.reply.code) c.as_str.ensures.value ∙ sym (ap text_of c.in-Parts.is) in
    subst (λ t. Sends g.W.Write.contents c.args.writer.now c.send_response.new.writer t (Ok c.in-Ok-send_response.field-0)) whole
    (sent g.W.Write.contents c.args.writer.now c.send_response.new.writer (response_text c.in-Parts.reply.code c.as_str.result.now) c.in-Ok-send_response.field-0 c.in-Ok-send_response.ensures)
