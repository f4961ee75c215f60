use Rattle.std.proofs.Common.{◌∙◌}
use Rattle.expectations.proofs.Steps.{met_where, met_without}
use Rattle.expectations.proofs.owners.is_satisfied.Goals as goal

pub returns-in-Some : goal.returns-in-Some
returns-in-Some c = c.is_met.ensures ∙ met_where c.args.now c.args.uid.now c.args.owners.now.entries c.in-Some.expectation.now c.in-Some.ensures.value

pub returns-in-None : goal.returns-in-None
returns-in-None c = met_without c.args.now c.args.uid.now c.args.owners.now.entries c.in-None.ensures.value
