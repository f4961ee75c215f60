use Rattle.std.proofs.Common.{true≢false, sym}
use Rattle.serde_json.specs.View.{view}
use Rattle.request_parts.proofs.Texts.{body_of-read, body_of-unread}
use Rattle.request_parts.proofs.body.read_body.Goals as goal

pub returns-in-Ok-clause-body : goal.returns-in-Ok-clause-body
returns-in-Ok-clause-body c = body_of-read c.args.text.now (view c.in-Ok.value) c.in-Ok.ensures.ok.0 c.in-Ok.ensures.ok.1

pub returns-in-Err-2-clause-body : goal.returns-in-Err-2-clause-body
returns-in-Err-2-clause-body c = body_of-unread c.args.text.now (c.in-Err.ensures.err (λ m. true≢false (sym (c.if-is_memory.ensures.1 m))))
