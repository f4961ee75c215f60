use Rattle.std.proofs.Common.{rules}
use Rattle.std.proofs.lemmas.List.Sorted.{answers_always}
use Rattle.deployment.proofs.SetOrder.{sorted_sets, age_total}
use Rattle.deployment.proofs.ages.sort_by_age.Goals as goal

pub returns : goal.returns
returns c =
    sorted_sets _ age_total c.sort_by.result c.args.sets.now.items c.sort_by.new.self.items c.sort_by.ensures.sorted c.sort_by.ensures.stable
    (answers_always _ _ _ (λ f a r f' k. search rules))
