use Rattle.std.proofs.Common.{◌≡◌, ℕ, List, subst, string_bytes}
use Rattle.std.specs.Prelude.{IfOk}
use Rattle.http_response.proofs.HeadParts.{flat_is_head}
use Rattle.http_response.proofs.heads.reply_head.Goals as goal

pub returns : goal.returns
returns c = subst (λ (x : List ℕ). IfOk c.head_in_parts.result (λ t. string_bytes t ≡ x)) (flat_is_head c.args.code c.args.body_len) c.head_in_parts.ensures
