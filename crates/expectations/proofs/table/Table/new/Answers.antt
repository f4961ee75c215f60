use Rattle.expectations.proofs.Steps.{none_at_all}
use Rattle.expectations.proofs.table.Table.new.Goals as goal

pub returns : goal.returns
returns c = none_at_all c.new.result.entries c.new.ensures.empty
