use Rattle.informer.proofs.Keeps.{opens}
use Rattle.informer.proofs.copies.Copies.open.Goals as goal

pub new-requires-3-clause-rule : goal.new-requires-3-clause-rule
new-requires-3-clause-rule c = opens _ c.new.ensures
