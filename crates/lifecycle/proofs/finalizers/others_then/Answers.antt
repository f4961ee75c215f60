use Rattle.std.proofs.Common.{ap, ◌∙◌}
use Rattle.serde_json.specs.Data.{Items}
use Rattle.serde_json.specs.View.{items_view}
use Rattle.spec_api.specs.Deletion.{of_policy}
use Rattle.lifecycle.specs.Finalizers.{followed}
use Rattle.lifecycle.proofs.Followed.{followed-others_then}
use Rattle.lifecycle.proofs.finalizers.others_then.Goals as goal

pub returns : goal.returns
returns c =
    c.in_ok-add_of_policy.ensures ∙ ap (λ (ds : Items). followed ds (of_policy c.args.policy)) c.in_ok-left.ensures
    ∙ followed-others_then (of_policy c.args.policy) (items_view c.args.items.now)
