use Rattle.expectations.proofs.Empty.{none_are}
use Rattle.expectations.proofs.expectation.Expectation.is_over.Goals as goal

pub returns-then-self-eq0 : goal.returns-then-self-eq0
returns-then-self-eq0 c = none_are c.args.self.now.creations c.len.result c.args.self.now.deletions.keys c.len.ensures.len c.if-self-eq0.true
