use Rattle.std.proofs.Common.{rules, tests, ◌∙◌, Some}
use Rattle.std.proofs.lemmas.Iterator.Consumers.{YieldsList-from_rest}
use Rattle.std.proofs.lemmas.Iterator.Search.{any_from_yields_List}
use Rattle.std.specs.BTreeMap.{values}
use Rattle.expectations.specs.Aged.{ages_out}
use Rattle.expectations.specs.Seen.{expectation_of}
use Rattle.expectations.proofs.AgedTexts.{any-seen}
use Rattle.expectations.proofs.owners.any_ages_out.Goals as goal

pub returns : goal.returns
returns c =
    any_from_yields_List (λ v. ages_out c.args.before c.args.now (Some (expectation_of v))) _ _ _ c.any.ensures.ran (YieldsList-from_rest (values c.args.owners.now) c.values.ensures.rest) (λ x b q k. search (rules, tests))
    ∙ any-seen c.args.before c.args.now c.args.owners.now.entries c.values.ensures.ordered
