use Rattle.std.proofs.Common.{ap, ◌∙◌}
use Rattle.expectations.specs.Seen.{expectation_of}
use Rattle.expectations.proofs.SeenTexts.{insert-text}
use Rattle.expectations.proofs.Steps.{by_text}
use Rattle.expectations.proofs.owners.expect.Goals as goal

pub returns-clause-ok : goal.returns-clause-ok
returns-clause-ok c = ap by_text c.in_ok-insert.ensures.entries ∙ insert-text expectation_of c.args.owners.now.entries c.args.uid c.args.expectation
