use Rattle.std.proofs.Common.{ap, ◌∙◌}
use Rattle.std.proofs.lemmas.Result.{IfOk-weaker}
use Rattle.spec_client_go.specs.Delays.{due}
use Rattle.keyed_queues.proofs.WorkDelays.{same_due}
use Rattle.backoff.specs.Seen.{counts_of}
use Rattle.backoff.proofs.delayed.Delayed.due_keys.Goals as goal

pub returns : goal.returns
returns c = IfOk-weaker c.due_keys.result _ _ (λ ks e. e ∙ same_due c.args.now (counts_of c.self.inside.keys) ∙ ap (due c.args.now) c.self.view_is) c.due_keys.ensures
