use Rattle.spec_laws.proofs.DueKeys.{only_list}
use Rattle.spec_laws.proofs.due_laws.due_are_the_only_list.Goals as goal

pub returns : goal.returns
returns c = only_list
