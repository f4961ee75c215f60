use Rattle.spec_api.specs.Uids.{uid_revision}
use Rattle.validate.proofs.Printed.{future_at, is_own, not_future}
use Rattle.validate.proofs.uids.is_of_the_future.Goals as goal

pub returns-in-Some : goal.returns-in-Some
returns-in-Some c = future_at (is_own c.args.text.now) (uid_revision c.args.text.now) c.in-Some.revision c.args.present c.in-Some.ensures

pub returns-in-None : goal.returns-in-None
returns-in-None c = not_future (is_own c.args.text.now) (uid_revision c.args.text.now) c.args.present c.in-None.ensures
