use Rattle.std.proofs.lemmas.Result.{IfOk-weaker}
use Rattle.controller_runtime.proofs.handling.with_all.Goals as goal

pub returns : goal.returns
returns g c = IfOk-weaker c.joined.result _ _ (λ all is. (c.in_ok-more.more.items, c.in_ok-more.ensures, is)) c.joined.ensures
