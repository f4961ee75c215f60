use Rattle.std.proofs.Common.{◌≡◌, refl, sym, ap, ◌∙◌}
use Rattle.serde_json.specs.Data.{string, item, no_items}
use Rattle.serde_json.specs.View.{items_view}
use Rattle.spec_api.specs.Deletion.{of_policy}
use Rattle.lifecycle.specs.Finalizers.{followed}
use Rattle.lifecycle.proofs.Followed.{followed-none, items_view-push}
use Rattle.lifecycle.proofs.finalizers.add_of_policy.Goals as goal
use Rattle.lifecycle.proofs.finalizers.add_of_policy.Goals.{in-Orphan, in-Foreground}

pub returns-in-Background : goal.returns-in-Background
returns-in-Background c = rw c.in-Background.is (sym (followed-none (items_view c.args.left.now.items)))

pub returns : goal.returns
returns c =
    let own : item (string c.match-policy.name.now) no_items ≡ of_policy c.args.policy =
    elim c.match-policy.branch [ in-Orphan w ↦ rw (w.name-is, w.in-Orphan.is) refl | in-Foreground w ↦ rw (w.name-is, w.in-Foreground.is) refl ] in
    ap items_view c.in_ok-push.ensures.items ∙ items_view-push c.args.left.now.items c.in_ok-try_from_str.field-0
    ∙ ap (λ e. followed (items_view c.args.left.now.items) (item e no_items)) c.in_ok-try_from_str.ensures ∙ ap (followed (items_view c.args.left.now.items)) own
