use Rattle.std.proofs.Common.{◌≡◌, Result, Ok, Err, IfOk, false, ap, ◌∙◌}
use Rattle.serde_json.specs.Data.{Items}
use Rattle.serde_json.specs.View.{items_view}
use Rattle.serde_json.specs.Written.{items_have_float}
use Rattle.spec_api.specs.Deletion.{of_policy, others_then}
use Rattle.lifecycle.proofs.Followed.{others_then-no_float, of_policy-no_float}
use Rattle.lifecycle.proofs.finalizers.left_by.Goals as goal

kept : {A E : Type 0} (f : A → Items) (r : Result A E) (wanted : Items) → items_have_float wanted ≡ false → IfOk r (λ a. f a ≡ wanted) → IfOk r (λ a. items_have_float (f a) ≡ false)
kept f (Ok a) wanted h is = ap items_have_float is ∙ h
kept f (Err e) wanted h is = tt

pub returns-else-are_of-clause-no_float : goal.returns-else-are_of-clause-no_float
returns-else-are_of-clause-no_float c =
    let p = c.in-Some.policy in
    let ds = items_view c.args.items.now in
    kept (λ v. items_view v.items) c.others_then.result (others_then (of_policy p) ds) (others_then-no_float (of_policy p) ds (of_policy-no_float p) c.requires.no_float) c.others_then.ensures
