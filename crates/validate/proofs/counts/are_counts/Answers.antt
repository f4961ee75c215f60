use Rattle.std.proofs.Common.{rules, tests}
use Rattle.std.proofs.lemmas.Iterator.{YieldsList-from_slice}
use Rattle.std.proofs.lemmas.Iterator.Search.{all_from_yields_List}
use Rattle.spec_api.specs.Checks.{in_status, is_not_negative}
use Rattle.validate.proofs.counts.are_counts.Goals as goal

pub returns : goal.returns
returns c =
    all_from_yields_List (λ name. is_not_negative (in_status name.now c.args.object.now.value)) _ _ _ c.all.ensures.ran (YieldsList-from_slice c.args.names.now cc) (λ x b q k. search (rules, tests))
